-- How a slot is filled.
pub mod Filling
