pub mod Behind
pub mod Back
