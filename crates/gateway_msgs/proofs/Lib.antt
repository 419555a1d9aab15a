pub mod Numbers
pub mod Bodies
pub mod Completing
pub mod Fronting
pub mod Spelled
