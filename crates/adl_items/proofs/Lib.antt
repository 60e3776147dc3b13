pub mod Common
pub mod Firsts
pub mod Trees
