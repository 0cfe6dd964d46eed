pub mod Value
pub mod Bytes
pub mod Walk
pub mod Evaluation
pub mod Promises
pub mod Outcome
