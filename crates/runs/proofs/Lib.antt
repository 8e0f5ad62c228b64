-- The proofs about whole runs: their tallies, what their reads got and cost, and the promise. Assumes nothing.
mod Tallies
mod ReadsGot
pub mod ReadCosts
pub mod Runs
