-- What a good state says.
pub mod Good
pub mod States
pub mod Zeros
