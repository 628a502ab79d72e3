pub mod Opposites
pub mod Truths
pub mod Marking
pub mod Invariant
