-- Laws that several crates cite.
pub mod Bools
pub mod Tabs
pub mod Fill
pub mod FillBack
pub mod FillOver
pub mod Pieces
pub mod Join
pub mod Every
pub mod Betweens
pub mod AllBelows
pub mod Firsts
pub mod BitEntries
pub mod Binaries
pub mod Xor
pub mod Parts
pub mod Puts
pub mod Fields
