pub mod Basket
pub mod Lamp
pub mod Sums
pub mod LampPlantLemmas
