-- The tree that spans make of a run of entries, for layouts and for value lists.
pub mod Tree
pub mod Examples
