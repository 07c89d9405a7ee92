pub mod Numbered
pub mod Canonical
pub mod Listing
pub mod Reading
pub mod Coming
pub mod Going
pub mod Texts
