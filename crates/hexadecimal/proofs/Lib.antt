-- The digits of a number, and bytes as digits.
pub mod Places
pub mod Bytes
pub mod ReadBack
