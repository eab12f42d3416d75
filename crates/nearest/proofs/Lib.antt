-- There is at most one codeword within eight bytes of a word, and one slot for it, and never none.
pub mod Sums
pub mod Vandermonde
pub mod Words
pub mod Unique
pub mod Exists
pub mod SlotUnique
pub mod Weights
pub mod Near
