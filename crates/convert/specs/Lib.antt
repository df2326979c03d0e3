-- From one layout to another: when two values are the same, the call, and what both mean.
pub mod Same
pub mod Exact
pub mod Calls
pub mod Parts
pub mod Accepted
pub mod Examples
