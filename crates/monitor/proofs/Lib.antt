pub mod AnswerWays
pub mod StoreWays
pub mod DropWays
pub mod UseWays
pub mod SwitchWays
