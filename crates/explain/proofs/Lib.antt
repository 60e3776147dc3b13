pub mod Common
pub mod Searching
pub mod Stages
pub mod Asking
pub mod Joined
