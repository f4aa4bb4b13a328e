pub mod Limits
pub mod Plants
pub mod Rows
pub mod Tariffs
