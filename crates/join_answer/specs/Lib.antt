pub mod Asked
pub mod Judge
