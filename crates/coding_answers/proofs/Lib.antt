-- The theorems of what coding and replacing answer and leave. Demand 3 is `replacing_is_coding_again` of Demand, for
-- any new packet NewPacket, in a layer of a record RecordDemand, at the doors RecordDoors; `demands` has it clause by
-- clause. What dispersing and interleaving one word gave, one after the other, is OneAfterTheOther.
pub mod Again
pub mod CodingAfter
pub mod FirstFrame
pub mod Codings
pub mod Demand
pub mod Difference
pub mod Early
pub mod Flips
pub mod Layers
pub mod ListSum
pub mod Minimal
pub mod NewPacket
pub mod OneAfterTheOther
pub mod OneBit
pub mod Outside
pub mod Quiet
pub mod RecordDemand
pub mod RecordDoors
pub mod Refusals
pub mod Replacements
pub mod Several
pub mod Stays
pub mod StaysGood
pub mod Story
pub mod Twice
pub mod Undone
