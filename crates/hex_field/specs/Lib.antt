-- Hex fields.
pub mod Hex
pub mod Examples
