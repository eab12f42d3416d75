-- Rule 2's laws.
pub mod Windows
pub mod Registers
pub mod Filling
pub mod Jumps
pub mod Words
