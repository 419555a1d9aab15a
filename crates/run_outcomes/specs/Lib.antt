pub mod Openers
pub mod Answers
pub mod Outcomes
pub mod Rare
pub mod SeenParts
pub mod Seen
pub mod Differences
