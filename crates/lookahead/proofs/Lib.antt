pub mod Bounds
pub mod Firsts
pub mod Leasts
pub mod Optional
