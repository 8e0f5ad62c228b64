-- What a run has to say, what one line is, and what is promised, in the order in which to read them. Assumes nothing.
pub mod Seen
pub mod Demands
pub mod Complete
