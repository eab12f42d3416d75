-- What the functions of the decoder say of each other.
pub mod Decode
pub mod Poly
pub mod Rows
pub mod Search
