pub mod Corner
pub mod Rise
