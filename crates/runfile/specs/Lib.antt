-- Run files of document 01 as definitions, in the order in which to read them. Assumes nothing.
pub mod Bytes
pub mod RunFile
pub mod Kind
pub mod Conditions
pub mod Code
