pub mod Booking
pub mod Keeping
pub mod Mirrors
pub mod Replies
pub mod Running
