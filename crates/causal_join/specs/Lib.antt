pub mod Causal
pub mod OrMap
pub mod Code
