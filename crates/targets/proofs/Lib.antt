-- Callers cite Endings, Answers and Singles.
pub mod Endings
pub mod Answers
pub mod Singles
mod Naming
mod Unpacking
mod Targets
