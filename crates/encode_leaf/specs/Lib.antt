-- The writer as its code goes: the record buffer carried along, positions that stop, and what its inner functions promise.
pub mod Laying
pub mod Machine
