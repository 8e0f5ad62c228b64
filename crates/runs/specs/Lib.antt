-- What a run file's run has to do with the demands. Assumes nothing.
pub mod Promise
