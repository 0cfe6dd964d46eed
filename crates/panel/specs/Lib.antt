pub mod Sizes
pub mod Lines
pub mod CallContracts
pub mod Runs
