-- What the programs that compare answers go by.
pub mod Holds
pub mod Numbers
