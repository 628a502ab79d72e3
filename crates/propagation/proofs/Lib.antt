pub mod Reaching
pub mod Clauses
pub mod Queueing
pub mod Exactness
pub mod Outcomes
