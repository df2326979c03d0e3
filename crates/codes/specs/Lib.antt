-- The numbers of kinds, tags, refusals, absent options and names of elements, and the enums that stand for them in code.
pub mod Codes
pub mod Kinds
pub mod Refusals
