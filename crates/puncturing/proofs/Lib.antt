-- The laws of puncturing and of its blocks.
pub mod Blocks
pub mod Linear
pub mod Picking
pub mod Tables
