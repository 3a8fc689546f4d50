mod Label
pub mod Reach
