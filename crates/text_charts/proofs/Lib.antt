mod Readings
mod Drawings
mod Tellings
