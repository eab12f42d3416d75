-- Lists given by a rule for each place, piece by piece or field by field, tests, and numbers by their binary digits.
pub mod Tab
pub mod Binary
pub mod Tests
