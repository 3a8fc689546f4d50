pub mod Answer
pub mod Each
