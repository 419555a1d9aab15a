pub mod Sessions
pub mod Messages
pub mod EachEvent
