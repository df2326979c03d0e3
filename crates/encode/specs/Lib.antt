-- Items by name in the entries' order; and which bytes of the record a field changes.
pub mod Order
pub mod Local
