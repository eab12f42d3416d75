-- The steps of going back.
pub mod Steps
