-- The proofs about lines: laws of the definitions. Assumes nothing.
mod Putting
