pub mod Stored
pub mod Refusals
pub mod Storing
pub mod Halves
pub mod Lists
pub mod Scores
pub mod Texts
