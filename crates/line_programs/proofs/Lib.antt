-- What the loop of a program goes by.
pub mod Areas
