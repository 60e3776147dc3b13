pub mod Common
pub mod Escaped
