pub mod Store
pub mod Memory
pub mod Place
