-- What coding a frame leaves, and the words of a frame.
pub mod Words
pub mod Frames
