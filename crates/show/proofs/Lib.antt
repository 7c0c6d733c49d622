mod Names
mod Lines
mod Merging
mod Turning
pub mod Whole
pub mod Runs
