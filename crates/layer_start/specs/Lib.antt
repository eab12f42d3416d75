-- What a start of a record is given.
pub mod Start
