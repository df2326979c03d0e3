-- Int and Display fields: numbers as text.
pub mod Display
pub mod Examples
