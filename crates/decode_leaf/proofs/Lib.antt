pub mod Runs
pub mod Said
pub mod Scalars
pub mod Stands
pub mod Ranges
pub mod Joined
