pub mod Line
pub mod Side
