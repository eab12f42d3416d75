-- What the engine answers, what its table holds, and what its functions say of each other.
pub mod Entry
pub mod Steps
pub mod Table
