-- The proofs about one move and the begin of a run: laws of the definitions. Assumes nothing.
mod Values
mod OneMove
pub mod Starting
pub mod Numbers
