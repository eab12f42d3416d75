-- The remainder modulo the generator of the Reed-Solomon code.
pub mod Remainder
pub mod Packets
pub mod Steps
