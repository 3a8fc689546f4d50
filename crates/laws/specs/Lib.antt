pub mod Equal
pub mod Every
pub mod First
pub mod Least
pub mod Run
pub mod Table
