-- Laws of stores and answers that the proofs of the moves and the calls cite. Assumes nothing.
pub mod Stored
pub mod Numbered
