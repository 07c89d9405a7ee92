pub mod Kept
pub mod Copied
pub mod Told
pub mod NamedFields
pub mod Sorted
pub mod Standing
pub mod Turned
