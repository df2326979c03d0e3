-- Edited fields.
pub mod Edited
pub mod Fits
pub mod Examples
