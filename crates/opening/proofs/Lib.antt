pub mod Singles
pub mod Amounts
pub mod Fitting
pub mod Opened
