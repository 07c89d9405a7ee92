pub mod Knowing
pub mod Stores
pub mod Puts
pub mod Erasing
pub mod Gathering
pub mod Listing
pub mod Groups
pub mod AsOrMap
pub mod Clearing
pub mod Keeping
pub mod Stacking
pub mod Merged
pub mod ByKeys
mod Counted
