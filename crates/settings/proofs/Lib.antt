-- The facts of the settings that later proofs need.
pub mod Answers
pub mod Refusals
pub mod Reasons
pub mod LegalSettings
pub mod Patterns
pub mod PatternRows
pub mod Sizes
pub mod Frame
