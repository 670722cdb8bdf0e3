-- What is said of runs of bytes.
pub mod Runs
