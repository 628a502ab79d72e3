pub mod Truths
pub mod Marked
pub mod Parts
