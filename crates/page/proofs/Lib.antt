pub mod Joining
pub mod Lengths
pub mod Examples
pub mod Marked
