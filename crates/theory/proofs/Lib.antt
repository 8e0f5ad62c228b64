-- Laws of tests, places and tables, of sums, of histories, of copying and of the line. Assumes nothing.
mod Computed
pub mod Tests
pub mod Joined
pub mod Places
pub mod Tables
pub mod Sums
pub mod Placed
pub mod Inserting
pub mod Lining
pub mod Copying
pub mod Noted
