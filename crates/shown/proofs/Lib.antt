pub mod Sinks
pub mod Windows
pub mod Lists
pub mod Answers
pub mod Pieces
