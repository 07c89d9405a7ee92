pub mod Same
pub mod Under
pub mod Levels
