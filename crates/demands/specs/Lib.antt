-- The letter's three demands, clause by clause; what is asked of records; document 01's sums done by hand; frames that
-- come back.
pub mod Demand1
pub mod Demand2
pub mod Demand3
pub mod Records
pub mod Sums
pub mod CameBack
pub mod Doors
pub mod Frames
pub mod InStep
pub mod Spoiled
