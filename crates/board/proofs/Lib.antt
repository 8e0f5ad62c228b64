-- Laws of the calls that their proofs cite. Assumes nothing.
mod Made
mod Answering
mod Unique
