pub mod Cuts
pub mod Write
pub mod Count
pub mod Places
pub mod Showing
pub mod Back
pub mod Changed
pub mod Answers
