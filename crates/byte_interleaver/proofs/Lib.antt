-- The laws of byte interleaving.
pub mod Taking
