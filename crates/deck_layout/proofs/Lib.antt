pub mod Headings
pub mod Sizes
