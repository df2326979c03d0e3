-- Writing a list and reading the record back; demand 3 of the two calls.
pub mod Same
