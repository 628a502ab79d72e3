pub mod Fitness
pub mod Refusals
pub mod Parts
pub mod Storage
pub mod Index
pub mod Contents
