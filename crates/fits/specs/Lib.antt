-- The values that fit a scalar field, and the test that decides it.
pub mod Fits
pub mod Decide
pub mod Examples
