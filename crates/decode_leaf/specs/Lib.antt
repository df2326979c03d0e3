-- The reader as its code goes: counts in a run of words, and what its inner functions promise.
pub mod Counts
pub mod Machine
