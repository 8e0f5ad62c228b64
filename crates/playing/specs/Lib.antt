-- The run of a run file of document 01 as definitions, in the order in which to read them. Assumes nothing.
pub mod Play
pub mod Numbers
pub mod Code
