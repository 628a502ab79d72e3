pub mod Bounds
pub mod Refusals
pub mod Points
pub mod Tables
pub mod Contents
