-- The laws of the table, row by row.
pub mod Accepting
pub mod Costs
pub mod Filling
pub mod Lowering
pub mod Packed
pub mod Rows
pub mod Spread
pub mod Stores
pub mod Unique
pub mod Walking
