-- The names of crates below that the definitions here cite, passed on from one place. Declares nothing.
pub use Rattle.cam_base.specs.Hex.{hex_text}
pub use Rattle.cam_base.specs.Texts.{together}
pub use Rattle.cap_model.specs.Lookup.{name_at, object_at}
pub use Rattle.cap_model.specs.RightsWord.{rights_word}
pub use Rattle.cap_model.specs.declared.cap.Cap.{Cap}
pub use Rattle.cap_model.specs.declared.object.Object.{Object}
pub use Rattle.cap_model.specs.declared.object.Object.TheVariants.{CNode, Endpoint, Frame, Irq, Notification, Pages, Thread}
pub use Rattle.cap_model.specs.declared.spec.Spec.{Spec}
pub use Rattle.std.specs.List.{flat_map, position}
pub use Rattle.std.specs.Option.{option_and_then, option_map, option_map_or}
pub use Rattle.std.specs.Str.{bytes_eq}
