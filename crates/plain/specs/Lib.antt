-- What the function that decides plain layouts goes by.
pub mod Ways
