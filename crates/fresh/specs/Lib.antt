-- What filling a fresh area does in parts, over the definitions of `register`. Assumes nothing.
pub mod Making
