pub mod Walking
pub mod Lookups
pub mod Places
pub mod Properness
