pub mod FewComponents
pub mod Least
pub mod Noting
pub mod Prelude
pub mod SamePaths
pub mod SoundNames
