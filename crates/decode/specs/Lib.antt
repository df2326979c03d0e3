-- What a call of the reader comes to, by its own answer.
pub mod Answered
