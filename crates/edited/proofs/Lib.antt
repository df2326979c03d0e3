pub mod Turns
pub mod Marks
pub mod Back
pub mod Sign
pub mod Round
