-- The laws of the walk, and of the stream from word to word.
pub mod Added
pub mod Parts
pub mod Streams
