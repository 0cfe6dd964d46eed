pub mod Refusals
pub mod WrittenWays
pub mod Bytes
