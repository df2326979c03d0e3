-- Positions that stop at 2^63.
pub mod Positions
