pub mod Judged
pub mod Laws
pub mod Lawful
pub mod Entries
