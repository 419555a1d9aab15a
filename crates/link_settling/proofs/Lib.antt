pub mod Flights
pub mod Sides
pub mod Ticks
