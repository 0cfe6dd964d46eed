pub mod Explaining
pub mod Faults
pub mod Shapes
