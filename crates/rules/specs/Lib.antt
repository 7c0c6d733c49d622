pub mod Outcome
pub mod Leaves
