-- Numbers.
pub mod Unique
pub mod Smaller
