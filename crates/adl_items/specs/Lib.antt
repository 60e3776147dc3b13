pub mod Declaring
pub mod Firsts
pub mod Located
pub mod Pointed
pub mod Sorted
pub use Rattle.adl_meaning.specs.Items
