-- The laws of values and remainders.
pub mod Padding
pub mod Putting
pub mod Powers
pub mod Shifting
pub mod Filling
pub mod Zeros
pub mod Unique
pub mod Division
pub mod Packets
