pub mod Group
pub mod Log
pub mod Gathers
pub mod LiveMap
pub mod Unknown
pub mod Merging
