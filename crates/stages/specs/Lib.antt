-- What the doors for C say.
pub mod Stages
pub mod BestMessage
