pub mod Calls
pub mod Seats
pub mod Meeting
pub mod Handed
