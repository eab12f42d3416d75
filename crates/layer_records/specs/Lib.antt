-- A record of three layers.
pub mod Record
