pub mod Bounded
pub mod Growing
