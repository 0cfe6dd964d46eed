pub mod SameBytes
pub mod Accepting
pub mod Claiming
pub mod InForceClaims
pub mod Examples
