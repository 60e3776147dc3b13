-- The names of crates below that the definitions here cite, passed on from one place. Declares nothing.
pub use Rattle.cam_base.specs.Lines.{Line, lines}
pub use Rattle.cam_base.specs.Names.{is_word, is_word_byte}
pub use Rattle.cam_base.specs.declared.error.Refused.{Refused}
pub use Rattle.cam_base.specs.declared.text_fault.TextFault.{TextFault}
pub use Rattle.cap_machine.specs.declared.step.Step.{Step}
pub use Rattle.cap_model.specs.Lookup.{name_at}
pub use Rattle.cap_model.specs.RightsWord.{grant_letter, has_rights, read_letter, reply_letter, rights_word, write_letter}
pub use Rattle.cap_model.specs.declared.rights.Rights.{Rights}
pub use Rattle.cap_model.specs.declared.spec.Spec.{Spec}
pub use Rattle.std.specs.Borrow.{Bor}
pub use Rattle.std.specs.List.{filter_map, find, flat_map, list_all, list_any, position}
pub use Rattle.std.specs.Option.{is_none, is_some, option_map, option_or, unwrap_or}
pub use Rattle.std.specs.Str.{bytes_eq}
