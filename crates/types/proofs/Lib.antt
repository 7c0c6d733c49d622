-- Room, Laws, Forming, Parts, Readers and Answers are what callers cite.
pub mod Room
pub mod Laws
pub mod Forming
pub mod Parts
pub mod Elements
pub mod OfKind
pub mod Readers
pub mod Answers
mod Shapes
pub mod Pieces
mod Rows
mod Chains
mod Growth
mod Searching
mod Writing
mod Tuples
mod Sharing
mod Walks
