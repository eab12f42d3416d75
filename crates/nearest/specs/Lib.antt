-- The one codeword within eight: what a codeword is, what correcting a word gives, and the slot of a received word.
pub mod Correction
pub mod Codeword
pub mod Slot
pub mod SlotEntry
