pub mod Operands
pub mod Clauses
