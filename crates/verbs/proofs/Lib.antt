pub mod Open
pub mod Words
pub mod Texts
pub mod Said
pub mod Runs
