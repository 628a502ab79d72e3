pub mod Ids
pub mod Sizes
pub mod Scores
