pub mod Answers
pub mod Plans
pub mod RefusedAs
pub mod Refusals
pub mod Stops
pub mod Sweeps
