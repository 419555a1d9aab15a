pub mod GoingOn
pub mod Fronts
pub mod OneAnswer
pub mod Answered
