-- What the inner functions of byte interleaving say of each other.
pub mod Steps
