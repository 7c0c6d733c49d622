-- Callers cite Outcomes, Calls and Streaming.
pub mod Outcomes
pub mod Calls
mod Operations
mod Steps
mod Arguments
mod Indexing
pub mod Streaming
