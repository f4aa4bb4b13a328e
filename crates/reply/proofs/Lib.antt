pub mod Beginnings
pub mod NextLines
pub mod PlanLines
pub mod Requested
pub mod Planned
