-- The walks of reader and writer as plain definitions; plain layouts and fitting lists; demand 3.
pub mod Walk
pub mod Reading
pub mod Writing
pub mod Kinds
pub mod Records
pub mod Plain
pub mod Fitting
pub mod Decide
pub mod Needs
pub mod Demand
pub mod Worked
pub mod Refusals
pub mod Local
