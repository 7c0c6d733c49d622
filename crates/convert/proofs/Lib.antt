mod Turning
pub mod Outcomes
