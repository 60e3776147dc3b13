pub mod Common
pub mod Compiling
pub mod Facts
mod FromTables
pub mod Layouts
pub mod MadeTables
mod ObjectLabels
pub mod OfSources
pub mod OneAnswer
mod OwnersLabels
mod Programs
pub mod Scripts
pub mod Soundness
