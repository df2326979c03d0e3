pub mod Widths
pub mod Meets
pub mod Leaves
pub mod Inside
pub mod Elements
