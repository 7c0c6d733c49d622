-- Callers cite Plans.
mod Builtins
pub mod Plans
