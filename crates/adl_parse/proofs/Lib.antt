pub mod Common
pub mod Parts
pub mod Terminals
pub mod Starts
pub mod Whole
pub mod Answering
