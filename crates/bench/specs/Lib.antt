pub mod Asking
pub mod Booking
pub mod Digests
pub mod Exports
pub mod Planning
pub mod Refusals
