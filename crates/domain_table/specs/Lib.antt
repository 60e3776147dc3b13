pub mod Below
pub mod Pages
pub mod Rows
pub mod Tables
