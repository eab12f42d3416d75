-- What is received of a stretch of carriers and of the unfinished word, and what the inner functions say of each other.
pub mod Received
pub mod Steps
pub mod Held
