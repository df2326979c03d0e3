pub mod Reading
pub mod Signs
pub mod Writing
pub mod Back
pub mod Numbered
