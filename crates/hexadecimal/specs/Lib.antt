-- Hexadecimal digits, and bytes as digits.
pub mod Digits
pub mod Bytes
