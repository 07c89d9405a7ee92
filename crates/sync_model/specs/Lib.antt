pub mod Opened
pub mod Filled
pub mod Differ
pub mod Fetch
pub mod Laws
pub mod Closing
pub mod Sets
pub mod Examples
