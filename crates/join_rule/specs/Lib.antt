pub mod Apply
pub mod Sums
