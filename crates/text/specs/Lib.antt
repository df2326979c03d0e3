-- Text fields and Pads: what is read, what is written, and a scalar as text.
pub mod Text
pub mod Changed
pub mod Shown
pub mod Examples
