pub mod Below
pub mod Confer
pub mod Ends
pub mod Row
pub use Rattle.authorities.specs.AuthoritySets
