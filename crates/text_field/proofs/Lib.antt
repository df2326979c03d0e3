pub mod Questions
pub mod Parts
pub mod Scratch
pub mod Alike
