pub mod Puts
pub mod LineLaws
pub mod ValueLaws
pub mod Fronts
pub mod Wholes
pub mod Fills
pub mod RoundTrips
