-- One scalar field of any kind, written; and the table of starred records.
pub mod Encode
pub mod Worked
pub mod Examples
