-- The proofs, from the ground up. Assumes nothing.
mod Counts
mod Balance
pub mod Moves
pub mod Frames
mod Guarded
mod Counting
mod Held
mod WriterDesk
mod Stays
mod InputA
mod Asleep
mod Told
mod Telling
mod StepCounts
mod Bounds
mod Dates
mod Clean
mod Planned
mod Going
pub mod Called
pub mod Observed
mod Others
pub mod Intact
pub mod Ages
pub mod Making
pub mod Made
pub mod Promise
pub mod Ending
mod Moments
pub mod Complete
