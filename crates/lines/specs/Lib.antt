pub mod Exactly
pub mod Cuts
pub mod Fields
pub mod Line
pub mod Numeral
pub mod Placed
