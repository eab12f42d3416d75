-- Parts of a lent area.
pub mod Copies
