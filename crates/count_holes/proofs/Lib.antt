mod Counting
pub mod Drawn
mod Rounding
mod Sizing
