-- The names of crates below that the definitions here cite, passed on from one place. Declares nothing.
pub use Rattle.cam_base.specs.Names.{is_letter, is_word_byte, named}
pub use Rattle.cam_base.specs.Numbers.{is_digit, number_value}
pub use Rattle.cam_base.specs.declared.error.Refused.{Refused}
pub use Rattle.cam_base.specs.declared.text_fault.TextCode.{TextCode}
pub use Rattle.cam_base.specs.declared.text_fault.TextCode.TheVariants.{CapdlByte, CapdlKindField, CapdlLeftOut, CapdlLimit, CapdlSlotRange, CapdlSyntax, CapdlTwice, CapdlUnknown}
pub use Rattle.cam_base.specs.declared.text_fault.TextFault.{TextFault}
pub use Rattle.cap_model.specs.Levels.{child, is_root_level, size}
pub use Rattle.cap_model.specs.declared.kind.Kind.{Kind}
pub use Rattle.cap_model.specs.declared.level.Arch.{Arch}
pub use Rattle.cap_model.specs.declared.level.Level.{Level}
pub use Rattle.cap_model.specs.declared.level.Level.TheVariants.{Directory, Global, Table, Upper}
pub use Rattle.cap_model.specs.declared.rights.Rights.{Rights}
pub use Rattle.cap_model.specs.declared.spec.Spec.{Spec}
pub use Rattle.std.specs.List.{flat_map, list_all, list_any, slice_get}
pub use Rattle.std.specs.Option.{is_some, option_map, option_map_or, option_or}
pub use Rattle.std.specs.Str.{bytes_eq}
