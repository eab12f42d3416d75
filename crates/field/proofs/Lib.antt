-- The laws of the field, and its tables.
pub mod Sum
pub mod Product
pub mod Steps
pub mod Tables
pub mod Logarithms
pub mod Lent
pub mod RootBound
pub mod Values
