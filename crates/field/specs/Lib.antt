-- The field of the Reed-Solomon code.
pub mod Field
pub mod Tables
pub mod Roots
