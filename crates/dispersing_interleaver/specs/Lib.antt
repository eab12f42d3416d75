-- Rules 2 and 3 for one word, and the stream that its message bits are taken from.
pub mod Stream
