-- The words of a frame and their pairs, the slots, and the frame's loop.
pub mod Stretch
pub mod Gathering
pub mod Finishing
pub mod Giving
pub mod Runs
pub mod Turns
