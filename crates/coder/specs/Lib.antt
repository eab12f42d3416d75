-- Coding a frame.
pub mod Steps
