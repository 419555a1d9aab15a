pub mod Again
pub mod Apart
pub mod Found
