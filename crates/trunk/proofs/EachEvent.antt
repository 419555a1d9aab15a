-- What holds of a trunk after each event.
pub mod Calls
pub mod BothSides
pub mod Quiet
pub mod AtRest
pub mod FirstSide
pub mod Tells
pub mod Trunks
pub mod OneCall
pub mod Worked
