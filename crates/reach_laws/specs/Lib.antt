pub mod Below
pub mod Flat
pub mod LaidOut
pub mod Pieces
pub mod Windows
pub mod Arranged
pub mod Plain
