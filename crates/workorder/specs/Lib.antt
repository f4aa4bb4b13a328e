pub mod Figures
pub mod Orders
pub mod Steps
