-- Definitions that every kind of field cites: digits and what they spell, answers, rounding, words, scalars and items.
pub mod Digits
pub mod Field
pub mod Answer
pub mod Number
pub mod Rounding
pub mod Word
pub mod Scalar
pub mod Examples
