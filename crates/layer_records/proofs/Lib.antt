-- What an entry over a record goes by.
pub mod Lent
