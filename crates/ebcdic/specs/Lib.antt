-- Code page 037, both ways.
pub mod Ebcdic
