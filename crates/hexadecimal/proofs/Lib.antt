pub mod DigitWays
pub mod PairWays
pub mod TextWays
pub mod Laws
