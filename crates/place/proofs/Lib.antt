-- Laws of the place of a record that the proofs cite, and what it means. Assumes nothing.
mod Resting
pub mod Placed
