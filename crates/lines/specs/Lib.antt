-- The lines that the bench prints, as definitions, and the code's own type. Assumes nothing.
pub mod OneLine
pub mod Code
