pub mod Taken
pub mod Branches
pub mod KeptKeys
pub mod Digests
pub mod Parted
pub mod Going
pub mod UnknownValues
pub mod MapsOf
