pub mod Fills
pub mod Refused
pub mod Shares
pub mod Sweeping
pub mod Unique
