pub mod Laws
pub mod Pairing
pub mod Back
