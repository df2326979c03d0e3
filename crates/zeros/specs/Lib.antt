-- A lent buffer behind what a call gives.
pub mod Filled
