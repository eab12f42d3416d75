-- The laws of the convolutional code.
pub mod Turning
pub mod Tables
