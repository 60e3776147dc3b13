pub mod Common
mod Giving
mod Noting
mod Widening
pub mod PageCommon
pub mod Adding
