pub mod Standing
pub mod Decisions
pub mod States
