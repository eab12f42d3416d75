-- The receiving state.
pub mod State
pub mod Bytes
pub mod Layer
pub mod Laws
