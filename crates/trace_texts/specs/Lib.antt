pub mod Numbered
pub mod Reads
pub mod Laws
