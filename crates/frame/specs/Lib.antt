pub mod Frames
pub mod Lines
pub mod Meaning
pub mod CallContracts
pub mod Runs
pub mod Kinds
pub mod Lent
