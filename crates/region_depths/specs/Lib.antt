pub mod Census
pub mod Tree
