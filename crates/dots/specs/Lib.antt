pub mod Refusal
pub mod Dot
pub mod Code
pub mod Bytes
pub mod Store
pub mod Printed
