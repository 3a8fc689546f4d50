pub mod Agreeing
mod Checked
mod Recovering
