pub mod Answers
pub mod Lines
pub mod Progress
pub mod Reading
pub mod Refusals
pub mod Spaces
pub mod Values
