-- Lines of a text, read and printed, the turns of a program's loop, the line of settings, and what is awaited after it.
pub mod Lines
pub mod Cut
pub mod Turns
pub mod Reading
pub mod First
pub mod Awaiting
pub mod Answer
pub mod Turned
