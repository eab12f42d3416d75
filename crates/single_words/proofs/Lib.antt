-- What the entry for one word leaves.
pub mod Outcomes
