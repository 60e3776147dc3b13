pub mod Authorities
pub mod AuthoritySets
