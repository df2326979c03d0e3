-- The text form of a layout: lawful texts, and the words and masks that they say.
pub mod Form
pub mod Reading
pub mod Walk
pub mod Firsts
pub mod Examples
