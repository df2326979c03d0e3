-- Floating-point fields: binary16, binary32 and binary64 read and written, and floats as decimals.
pub mod Half
pub mod Single
pub mod Narrow
pub mod Decimal
pub mod Convert
pub mod Field
pub mod Examples
