-- Laws of records of three layers.
pub mod Steps
pub mod Entries
pub mod Laws
pub mod Named
pub mod Good
pub mod GoodWords
pub mod Starts
pub mod InLayer
pub mod RecordBytes
pub mod Areas
pub mod StartAreas
pub mod Commute
pub mod Between
pub mod Again
pub mod Places
pub mod Reasons
pub mod AreaRows
