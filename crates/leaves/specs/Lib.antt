-- The leaves as C functions.
pub mod Leaves
