pub mod Steps
pub mod Tail
pub mod Turns
pub mod Around
pub mod Public
