-- Three layers in one record, and what a call does to it.
pub mod Record
pub mod States
pub mod Good
pub mod Start
pub mod Calls
pub mod Areas
pub mod Rows
pub mod Reasons
