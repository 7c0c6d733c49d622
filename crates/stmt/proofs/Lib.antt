pub mod Laws
pub mod Cells
pub mod Leaves
pub mod Bodies
pub mod Compound
pub mod Branching
pub mod Modules
