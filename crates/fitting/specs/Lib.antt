-- Fitting lists decided by code: the walk as its loops go, and what its functions promise.
pub mod Steps
pub mod Machine
