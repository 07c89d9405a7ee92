pub mod Children
pub mod Shapes
pub mod Kept
pub mod Falls
pub mod Root
pub mod Left
pub mod Shown
pub mod Changes
