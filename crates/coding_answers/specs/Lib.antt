-- What coding, replacing and the doors over a coding state answer and leave.
pub mod Calls
pub mod Coding
pub mod Entries
pub mod Layers
pub mod Listed
pub mod Reasons
pub mod Packets
pub mod Records
pub mod Replacement
pub mod SingleWords
