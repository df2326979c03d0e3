pub mod Laws
pub mod Turns
pub mod Exact
pub mod Calls
pub mod Accepted
