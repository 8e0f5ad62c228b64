-- The tally of a run. Assumes nothing.
pub mod Tally
