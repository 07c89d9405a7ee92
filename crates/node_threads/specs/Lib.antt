pub mod History
pub mod Batch
pub mod Opening
pub mod Serving
pub mod Frames
pub mod Renewing
pub mod Twice
pub mod TimedServing
