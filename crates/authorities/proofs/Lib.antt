pub mod AuthorityBits
pub mod Words
