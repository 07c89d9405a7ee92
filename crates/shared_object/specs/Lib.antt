pub mod History
pub mod Calling
pub mod Finishing
