pub mod Distinct
pub mod Decisions
pub mod Promises
pub mod Running
