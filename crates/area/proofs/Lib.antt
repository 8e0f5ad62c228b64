-- Laws of the area's words that the code's proofs cite, here and in the crates above. Assumes nothing.
pub mod Sizes
mod Words
pub mod Taken
pub mod Behind
mod Copying
