pub mod Writes
pub mod Runs
