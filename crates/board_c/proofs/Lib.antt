-- Laws of the calls for C that their proofs cite, and what the words of an area mean. Assumes nothing.
mod Told
mod Making
