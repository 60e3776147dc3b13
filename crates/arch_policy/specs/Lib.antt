pub mod Below
pub mod Bound
pub mod Ends
pub mod Gives
pub mod Labels
pub mod Owners
pub mod Policies
pub mod Reasons
pub mod Tables
pub mod Triples
pub mod Where
pub mod LockEdges
pub use Rattle.adl_meaning.specs.Faults
pub use Rattle.cap_model.specs.Tables as EdgeTables
pub use Rattle.cspace_layout.specs.Within
