pub mod Keys
pub mod Rules
pub mod Values
pub mod Written
