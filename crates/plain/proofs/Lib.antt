pub mod Clauses
pub mod Names
pub mod Turns
pub mod Whole
