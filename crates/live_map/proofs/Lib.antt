pub mod Members
pub mod Passing
pub mod Places
pub mod Changing
pub mod Unchanged
pub mod Brought
mod OneKey
mod NewKey
mod Repeating
