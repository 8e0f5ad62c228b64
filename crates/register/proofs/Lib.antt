-- Laws of the definitions, document 01's numbers, and its small runs computed. Assumes nothing.
pub mod SmallRuns
mod Shortcuts
mod Touches
mod AgeRuns
mod Whole
pub mod Body
pub mod Rows
pub mod Facts
pub mod Numbers
pub mod Stands
pub mod Answers
