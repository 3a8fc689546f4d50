pub mod Applying
pub mod Fewer
pub mod Mapping
pub mod Readiness
pub mod Visiting
