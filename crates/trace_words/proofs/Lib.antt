pub mod WordLemmas
pub mod CommandLemmas
pub mod Answering
pub mod Listing
