pub mod Notes
pub mod Answer
pub mod Lent
pub mod Giving
