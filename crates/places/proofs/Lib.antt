pub mod Parts
pub mod Slots
pub mod Laws
pub mod Writes
pub mod Ways
