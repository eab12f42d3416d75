-- Laws of the program's lines.
pub mod Tellings
pub mod Slots
pub mod Unique
pub mod Turns
pub mod Exists
pub mod Runs
