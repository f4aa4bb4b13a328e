pub mod AirFirst
pub mod Orders
pub mod Priced
pub mod Refusals
pub mod OrdersLemmas
