pub mod Items
pub mod Lawful
pub mod Exact
pub mod Words
pub mod Flat
