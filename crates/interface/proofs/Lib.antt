pub mod ByPlaces
