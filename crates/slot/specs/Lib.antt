-- What the inner functions of a slot say of each other.
pub mod Steps
