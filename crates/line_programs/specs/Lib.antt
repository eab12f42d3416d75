-- The areas of a program's loop.
pub mod Areas
