pub mod Adding
pub mod Building
pub mod Taken
pub mod Taking
