pub mod Kinds
pub mod Outcome
pub mod Parts
