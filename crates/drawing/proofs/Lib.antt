pub mod Part
pub mod Refusing
pub mod Whole
