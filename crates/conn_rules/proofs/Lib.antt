pub mod Roles
pub mod RowAuthorities
pub mod Sets
