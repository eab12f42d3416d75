-- The lines of the program `frames`, and the turns of its loop.
pub mod Lines
pub mod Turns
pub mod Laws
