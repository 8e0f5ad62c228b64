-- Laws of steps 4 and 5 of a reader that their proofs cite. Assumes nothing.
mod Copied
