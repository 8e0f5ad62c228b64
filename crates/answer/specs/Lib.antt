-- What the calls on an area say, over the definitions of `register`. Assumes nothing.
pub mod Refusals
pub mod Carried
