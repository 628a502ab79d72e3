pub mod Reaches
pub mod Finds
pub mod Queue
pub mod Outcomes
