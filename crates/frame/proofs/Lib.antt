pub mod KindWays
pub mod LineWays
pub mod Meanings
pub mod LineRuns
pub mod Examples
pub mod NeverShort
