-- The lines of a layout's text form, each judged on its own; names, and their numbers by first sight.
pub mod Lines
pub mod Names
pub mod Examples
