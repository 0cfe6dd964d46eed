pub mod Enclosed
pub mod SameMeaning
pub mod Shortest
pub mod Edges
pub mod Walk
