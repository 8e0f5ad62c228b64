-- Laws of the words of a fresh area that the proofs cite. Assumes nothing.
mod Filled
