-- The laws of bit interleaving by symbols.
pub mod Writing
pub mod Histories
pub mod Joining
pub mod Gathering
pub mod Laying
pub mod Masks
pub mod WidthsMade
