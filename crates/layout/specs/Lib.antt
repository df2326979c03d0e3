-- What a lawful layout is, and what it comes to.
pub mod Layout
pub mod Examples
pub mod Level
