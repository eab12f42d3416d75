-- The laws of codewords, parities and the word sent.
pub mod Message
pub mod Sent
pub mod Laid
pub mod Unique
