-- The laws by which a replacement goes through thirteen words.
pub mod Frames
pub mod Silent
pub mod States
pub mod Walks
pub mod Words
