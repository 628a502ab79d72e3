pub mod Words
pub mod Filling
pub mod Reading
pub mod Counting
pub mod Collecting
