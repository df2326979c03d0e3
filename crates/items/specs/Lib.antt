-- Value lists: when one is well formed, and its items by name.
pub mod Items
pub mod Examples
pub mod Level
