-- Scrap over the last jobs: the window, its two entries, the three calls, and what holds of any run of records and changeovers.
pub mod Window
pub mod Pair
pub mod Calls
pub mod Runs
pub mod Own
pub mod Steps
pub mod Parts
pub mod Examples
