-- The proofs about run files: laws of the definitions. Assumes nothing.
pub mod Files
pub mod Conditions
