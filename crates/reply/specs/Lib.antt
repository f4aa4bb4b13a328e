pub mod Laws
pub mod Plans
pub mod Refusals
pub mod Replies
