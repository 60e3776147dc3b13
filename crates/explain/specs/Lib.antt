pub mod Explained
pub mod Sought
pub mod Answers
pub mod Lines
pub use Rattle.cspace_layout.specs.Within
