pub mod Asks
pub mod Turns
pub mod Joined
