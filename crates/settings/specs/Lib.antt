-- The settings of a layer and their bytes, the answers, and the sizes of a frame.
pub mod Answers
pub mod Legal
pub mod Sizes
pub mod Patterns
pub mod Areas
pub mod Reasons
