pub mod Dots
pub mod Context
pub mod Code
pub mod Canonical
pub mod Run
pub mod Equal
pub mod Growth
