-- Rules 1 to 6 of document 01, over a frame, and going back.
pub mod Word
pub mod Dispersal
pub mod Bytes
pub mod Code
pub mod Puncturing
pub mod Bits
pub mod Frame
pub mod Back
