pub mod StreamLemmas
pub mod LineLemmas
pub mod RunLemmas
pub mod StatusLemmas
pub mod TurnLemmas
pub mod Unique
