-- The lines of the program `receiving`, and the turns of its loop.
pub mod Lines
pub mod Turns
pub mod Laws
