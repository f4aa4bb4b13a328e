pub mod Rules
pub mod Promises
pub mod Endings
pub mod Refusals
