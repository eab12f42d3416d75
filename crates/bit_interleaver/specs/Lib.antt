-- Rule 6 by symbols, and what the inner functions say of each other.
pub mod Symbols
