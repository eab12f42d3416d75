-- Each door for C allows one result alone; what the door of the engine answers.
pub mod Unique
pub mod BestMessages
