pub mod Index
pub mod Live
pub mod Closing
pub mod OneKey
pub mod Bringing
