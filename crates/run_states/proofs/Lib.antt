pub mod Effects
pub mod Making
pub mod States
