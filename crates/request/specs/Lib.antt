pub mod Due
pub mod Requests
pub mod Writing
