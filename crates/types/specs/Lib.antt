-- Layout is this crate's own: no other names it.
pub mod Layout
pub mod Kinds
pub mod Table
pub mod Steps
pub mod Reading
