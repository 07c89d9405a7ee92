pub mod Gathered
pub mod Dots
pub mod Values
pub mod Stores
pub mod Halves
pub mod OneKey
