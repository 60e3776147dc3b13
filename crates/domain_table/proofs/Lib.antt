pub mod Common
mod Tabled
