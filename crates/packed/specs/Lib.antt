-- Packed decimal numbers.
pub mod Packed
pub mod Examples
