pub mod Laws
pub mod Sight
pub mod Inside
pub mod Std
