pub mod Heads
pub mod Saves
