-- One Text field on its own: the questions, the translated field, the text and its place.
pub mod Single
pub mod Examples
