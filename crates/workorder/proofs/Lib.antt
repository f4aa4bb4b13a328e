pub mod Arcs
pub mod Leasts
pub mod Parts
pub mod Portfolios
pub mod Worked
pub mod WorkOrders
