-- A link that is settled.
pub mod StepsLeft
pub mod Settlers
pub mod Readings
pub mod Resting
pub mod SixTicks
pub mod Steps
pub mod FewerLeft
