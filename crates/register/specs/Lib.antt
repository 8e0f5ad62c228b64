-- Document 01, with the age of document 02's request 1, as definitions, in the order in which to read them.
-- Assumes nothing.
pub mod Shape
pub mod Area
pub mod Conditions
pub mod Steps
pub mod Calls
pub mod Numbers
pub mod Stands
pub mod Answers
