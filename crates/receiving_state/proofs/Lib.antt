-- The tests of a state, and what a good one is.
pub mod Good
pub mod States
pub mod Zeros
