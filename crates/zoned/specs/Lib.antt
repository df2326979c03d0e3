-- Zoned decimal numbers: a digit to a byte, the sign over the last one.
pub mod Zoned
pub mod Examples
