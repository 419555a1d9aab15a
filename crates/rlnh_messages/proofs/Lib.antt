pub mod Types
pub mod Bodies
