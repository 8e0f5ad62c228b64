-- Laws of the test of an area that its proofs cite, and those of the calls that make it. Assumes nothing.
pub mod AreaTest
mod MemoryTest
mod Every
pub mod TestResult
