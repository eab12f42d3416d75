-- The laws by which the codeword is found; Decoding and Ending have the theorems.
pub mod Decoding
pub mod Ending
pub mod Exponents
pub mod Few
pub mod Fills
pub mod Folding
pub mod Inserting
pub mod Mending
pub mod Poly
pub mod RowLaws
pub mod Searching
pub mod Starting
pub mod SyndromeLaws
pub mod Totals
