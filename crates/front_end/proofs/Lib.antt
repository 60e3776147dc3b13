pub mod Common
mod LoadedFew
pub mod LoadedShort
pub mod LoadedWhole
pub mod OneAnswer
pub mod Refusing
pub mod Sound
pub mod Within
pub mod Passing
