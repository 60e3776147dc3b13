pub mod Clap
pub mod Lines
pub mod Words
