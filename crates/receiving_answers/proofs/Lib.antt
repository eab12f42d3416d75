-- The theorems of what going back answers and leaves.
pub mod After
pub mod Answers
pub mod Areas
pub mod Exists
pub mod Layers
pub mod Refusals
pub mod Unique
