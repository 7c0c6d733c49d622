pub mod Fold
pub mod Answer
