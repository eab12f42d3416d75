-- Rules 4 to 6 for one word.
pub mod Step
