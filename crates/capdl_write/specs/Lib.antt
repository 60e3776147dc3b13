pub mod Pieces
pub mod Canon
pub mod Writable
pub use Rattle.cam_io.specs.Sinks
pub use Rattle.cap_model.specs.Canonical
