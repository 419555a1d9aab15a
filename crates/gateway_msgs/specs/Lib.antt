pub mod Requests
pub mod Replies
pub mod Filters
pub mod Fronts
pub mod Positions
pub mod Laws
