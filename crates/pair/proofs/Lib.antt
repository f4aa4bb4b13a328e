pub mod Instance
pub mod Rows
pub mod Sums
pub mod Survival
