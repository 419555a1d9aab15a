pub mod Backlogs
pub mod Fronts
pub mod Serving
pub mod Ending
pub mod Laws
pub mod Answers
