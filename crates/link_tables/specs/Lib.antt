pub mod Sides
pub mod Marks
pub mod Sent
pub mod Arrivals
