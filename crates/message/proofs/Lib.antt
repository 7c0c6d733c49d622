pub mod Open
pub mod Types
mod Texts
pub mod Writing
mod Naming
mod Filling
pub mod Telling
mod Codes
mod NoCode
