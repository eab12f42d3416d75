-- The best message of received pairs.
pub mod Best
