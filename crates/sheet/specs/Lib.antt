pub mod Counting
pub mod Listing
pub mod Marks
pub mod Opening
pub mod Writing
pub mod Reading
