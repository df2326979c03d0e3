pub mod Words
pub mod Bools
pub mod Integers
pub mod Back
