-- What going back and its doors answer and leave.
pub mod Layers
pub mod Reasons
pub mod Receiving
pub mod Words
pub mod Entries
pub mod Entry
