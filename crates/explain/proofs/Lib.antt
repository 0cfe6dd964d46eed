pub mod Longest
pub mod ReplyWays
pub mod LineWays
pub mod ReadWays
pub mod Laws
