pub mod Build
pub mod FromTheLeft
pub mod Notes
pub mod Rows
pub mod Reading
pub mod Answers
