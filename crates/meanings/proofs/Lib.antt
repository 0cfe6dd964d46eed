pub mod Applying
pub mod Examples
pub mod Numbers
