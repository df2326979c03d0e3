-- Binary integers and Bools.
pub mod Bytes
pub mod Binary
pub mod Examples
