pub mod Lines
pub mod Moves
