pub mod Best
pub mod Choices
pub mod Gains
pub mod Steps
