pub mod Changes
pub mod Searching
