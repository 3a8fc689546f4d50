pub mod Arm
pub mod Back
pub mod Count
pub mod Darts
pub mod Fit
pub mod Mask
pub mod Points
pub mod Reach
mod Rows
