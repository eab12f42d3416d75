-- Rule 2, dispersal.
pub mod Register
pub mod Steps
