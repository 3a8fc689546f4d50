pub mod Tally
pub mod Total
