pub mod Word
pub mod Command
pub mod Parsed
pub mod Text
pub mod Answer
pub mod Fault
pub mod Reply
