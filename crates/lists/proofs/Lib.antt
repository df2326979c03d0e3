pub mod Table
pub mod Logic
pub mod Lists
pub mod Scan
pub mod Part
pub mod Keys
pub mod Ends
