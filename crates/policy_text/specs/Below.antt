-- The names of crates below that the definitions here cite, passed on from one place. Declares nothing.
pub use Rattle.authorities.specs.Authorities.{authority_of, text_of}
pub use Rattle.cam_base.specs.Fields.{fields}
pub use Rattle.cam_base.specs.LineFaults.{Wrong, at_line}
pub use Rattle.cam_base.specs.Lines.{Line, lines}
pub use Rattle.cam_base.specs.Names.{is_name, is_word}
pub use Rattle.cam_base.specs.Texts.{together}
pub use Rattle.cam_base.specs.declared.error.Refused.{Refused}
pub use Rattle.cam_base.specs.declared.text_fault.TextCode.{TextCode}
pub use Rattle.cam_base.specs.declared.text_fault.TextCode.TheVariants.{LabelTwice, ObjectTwice, PolicyLimit, PolicySyntax, UnknownLabel, Unlabelled}
pub use Rattle.cam_base.specs.declared.text_fault.TextFault.{TextFault}
pub use Rattle.cap_model.specs.Policies.{is_label_name, label_name}
pub use Rattle.cap_model.specs.Tables.{IsSorted, has}
pub use Rattle.cap_model.specs.declared.edge.Edge.{Edge}
pub use Rattle.cap_model.specs.declared.policy.Policy.{Policy}
pub use Rattle.std.specs.Borrow.{Bor}
pub use Rattle.std.specs.List.{filter_map, flat_map, list_any}
pub use Rattle.std.specs.Option.{is_none, is_some, option_map, option_map_or, option_or, unwrap_or}
pub use Rattle.std.specs.Ordering.{nat_cmp}
pub use Rattle.std.specs.Str.{bytes_eq}
