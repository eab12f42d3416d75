-- What the inner functions of a replacement say of each other.
pub mod Steps
