pub mod Snapshot
pub mod Answering
pub mod Posting
pub mod Laws
pub mod Asking
pub mod Turning
pub mod Turns
pub mod Staged
