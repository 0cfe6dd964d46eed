pub mod LinesWays
pub mod TurnWays
pub mod RunWays
pub mod Laws
pub mod ByByte
pub mod Joined
