pub mod Common
pub mod Typed
