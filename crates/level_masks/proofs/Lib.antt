mod Drafting
pub mod Ruling
