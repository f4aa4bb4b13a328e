pub mod LoneChain
pub mod LonePasts
pub mod OnePart
pub mod OnePlan
