pub mod Keyed
pub mod Joined
pub mod Copied
pub mod Here
