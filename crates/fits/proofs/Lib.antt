pub mod Embedded
pub mod Back
pub mod Tests
pub mod Sound
pub mod Items
pub mod Length
pub mod Steps
