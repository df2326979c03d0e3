-- What `show` prints.
pub mod Shown
pub mod Sink
pub mod Worked
