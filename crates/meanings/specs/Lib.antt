pub mod Meanings
pub mod Enums
