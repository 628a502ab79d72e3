pub mod Standings
pub mod Deciding
pub mod Invariant
