-- Text in lent bytes as definitions, in the order in which to read them. Assumes nothing.
pub mod Lines
pub mod Sheet
