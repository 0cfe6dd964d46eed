pub mod Lacking
pub mod TreeByByte
pub mod Walking
pub mod Evaluating
pub mod Promised
pub mod Examples
