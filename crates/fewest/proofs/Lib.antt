-- The laws of the best message.
pub mod Best
pub mod Join
pub mod Exact
pub mod Flips
pub mod Differences
pub mod Rows
pub mod Bounds
pub mod Fronts
pub mod Joining
pub mod Settles
