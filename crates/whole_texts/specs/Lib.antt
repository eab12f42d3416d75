-- Whole texts: what the lines of a text print, what its pieces print, and frames there and back.
pub mod Reading
pub mod Loop
pub mod Programs
pub mod ThereAndBack
