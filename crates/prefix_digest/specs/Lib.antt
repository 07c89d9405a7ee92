pub mod Page
pub mod Values
pub mod Told
pub mod Taking
pub mod Summary
pub mod MapOf
