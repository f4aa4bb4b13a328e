pub mod Readers
pub mod Rows
pub mod Steps
pub mod Sound
pub mod Texts
pub mod Writing
pub mod Sample
