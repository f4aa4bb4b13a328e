pub mod Dearest
pub mod Folds
pub mod Places
pub mod Counting
pub mod Numbered
pub mod Turns
pub mod Meaning
pub mod Instance
