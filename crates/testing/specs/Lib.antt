-- What the test of an area gives, over the definitions of `register`. Assumes nothing.
pub mod Test
