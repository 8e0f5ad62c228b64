-- The text that the bench prints, as definitions, in the order in which to read them. Assumes nothing.
pub mod Printed
pub mod Sizes
pub mod Code
