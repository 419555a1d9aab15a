pub mod EachLine
pub mod OneMore
