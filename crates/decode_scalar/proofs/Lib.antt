pub mod Answers
pub mod Embedded
