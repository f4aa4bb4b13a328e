pub mod Asking
pub mod Histories
pub mod Opening
pub mod Requests
pub mod Saying
pub mod Streams
pub mod Talks
pub mod Terminals
