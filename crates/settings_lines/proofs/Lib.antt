-- An answer's numbers as bytes, and how much of a line decides its answer.
pub mod Sizes
pub mod Capped
pub mod Turns
