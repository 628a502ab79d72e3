pub mod Rows
pub mod Parts
pub mod Gathering
pub mod Times
pub mod Rooms
pub mod Putting
pub mod Indexing
pub mod Clauses
