-- Lines cut out of pieces, the line of settings, and lines of the output.
pub mod Places
pub mod Parts
pub mod Cuts
pub mod Steps
pub mod Begins
pub mod Small
pub mod Areas
pub mod Turns
pub mod Unique
pub mod Answers
