-- Texts that come in pieces print what the whole text prints; frames that are coded come back.
pub mod Cuts
pub mod Reading
pub mod Printing
pub mod Loop
pub mod Programs
pub mod TextLines
pub mod FirstLines
pub mod CarriersCoded
pub mod CodingFrames
pub mod SlotsGiven
pub mod ReceivingFrames
pub mod SomeFrames
pub mod ThereAndBack
