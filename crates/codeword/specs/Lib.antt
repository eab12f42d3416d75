-- Rule 1: a codeword, the parity that makes one, and the word sent.
pub mod Parity
pub mod Run
pub mod Sent
