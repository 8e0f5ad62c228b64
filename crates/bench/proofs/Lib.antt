-- The proofs about the text: laws of the definitions. Assumes nothing.
mod Space
mod Course
mod Lengths
