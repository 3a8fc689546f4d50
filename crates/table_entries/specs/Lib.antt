pub mod Pointed
pub mod Row
pub mod Trim
