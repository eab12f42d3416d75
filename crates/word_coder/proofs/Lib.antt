-- What the step of a word needs: how many there are, its bytes by bits, its symbols by places, and all of it together.
pub mod Numbers
pub mod Windows
pub mod Placing
pub mod Stepping
pub mod Runs
pub mod Whole
