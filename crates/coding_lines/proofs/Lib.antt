-- Laws of the program's lines.
pub mod Tellings
pub mod Shown
pub mod Turns
pub mod Runs
