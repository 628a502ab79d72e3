pub mod Mapped
pub mod Blocks
pub mod Pairs
pub mod Kept
pub mod AtTable
pub mod Measured
pub mod ThreeParts
pub mod Named
