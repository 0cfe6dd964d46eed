pub mod LineWays
pub mod MoveWays
pub mod Laws
