-- Rule 5, puncturing, and the blocks of message bits that keep 24 coded bits.
pub mod Block
pub mod Steps
