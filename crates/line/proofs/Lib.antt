pub mod Pieces
pub mod Answered
pub mod One
