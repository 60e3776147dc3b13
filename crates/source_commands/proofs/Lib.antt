pub mod Common
pub mod Explaining
pub mod Listed
pub mod OneAnswer
pub mod OverTree
