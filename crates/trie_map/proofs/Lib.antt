pub mod Visits
pub mod Holding
pub mod Written
pub mod Copied
pub mod Here
