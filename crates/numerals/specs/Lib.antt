-- Numbers as text: blanks, digits and signs.
pub mod Numerals
