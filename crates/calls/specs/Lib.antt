pub mod Names
pub mod Refusals
pub mod States
pub mod Replies
pub mod Runs
pub mod Promise
