-- What the received pairs need: blocks and patterns, the planes, both while they are filled in, and all together.
pub mod Blocks
pub mod Places
pub mod PlaneFilling
pub mod PairFilling
pub mod Whole
pub mod HeldLaws
pub mod HeldCounts
pub mod LastWord
