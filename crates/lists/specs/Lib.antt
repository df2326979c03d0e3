-- Definitions that all crates share: on lists and slices, and the word for what is absent.
pub mod Scan
pub mod Part
