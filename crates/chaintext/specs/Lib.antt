pub mod Answers
pub mod Counted
pub mod Reads
pub mod Sample
pub mod Steps
pub mod Writing
