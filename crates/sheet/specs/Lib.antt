pub mod Relation
pub mod Layout
pub mod Kinds
pub mod Loading
pub mod Lists
pub mod InForce
pub mod BindingPowers
