pub mod Ending
pub mod Spreading
pub mod Clauses
