-- One scalar field of any kind, read.
pub mod Decode
pub mod Examples
