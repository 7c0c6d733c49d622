-- Rewriting and the specs are what callers cite.
pub mod Rewriting
mod Meeting
mod Marking
mod Again
mod Opening
mod Visiting
mod Names
mod Sizes
mod Areas
mod Whole
mod Reading
mod Typing
mod Naming
mod Ending
