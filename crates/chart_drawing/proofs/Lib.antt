pub mod EachRow
pub mod Counts
pub mod Behind
pub mod Few
pub mod Found
