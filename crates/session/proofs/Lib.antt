pub mod Finding
pub mod Searching
