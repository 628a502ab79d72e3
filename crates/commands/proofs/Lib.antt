pub mod Joining
pub mod Decimals
