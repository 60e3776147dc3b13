-- The next token decides each line that is repeated and each public form; the bracketed value is a line that may stand
-- within itself.
use Rattle.adl_ast.proofs.Common.{IsLine, [], among, behind, cases_Bool, composition_member_form, decides, dot_word, end_form, ended_form, entry_form, further, inl, inr, instance_form, mark_code, member_form, opens, param_form, proc_member_form}
use Rattle.adl_ast.proofs.Common.{refl, setting_form, token_code, true, value_form, ℕ, ◌==◌, ◌∷◌, ◌≡◌, ◌⊎◌}
use Rattle.cam_base.specs.declared.token.Mark.TheVariants as marks
use Rattle.adl_ast.specs.Forms.{value_line, values_line, list_line, entry_line, entries_line, dictionary_line, nested_line, typed_line, import_line, direction_line, param_line, void_params_line, directed_line, undirected_line, other_params_line}
use Rattle.adl_ast.specs.Forms.{params_line, method_line, proc_member_line, procedure_line, instance_line, group_line, dotted_line, end_line, connection_line, export_line, composition_member_line, composition_line, path_line, setter_line}
use Rattle.adl_ast.specs.Forms.{setting_line, configuration_line, assembly_line, plain_port_line, buf_line, data_line, dataport_line, interface_line, attribute_line, lock_line, flag_line, member_line, component_line, item_line, ended_line, file_line}

-- a token among the brackets is the one or the other
one_of_two : (c d e : ℕ) → among (d ∷ e ∷ []) c ≡ true → (among (d ∷ []) c ≡ true) ⊎ (among (e ∷ []) c ≡ true)
one_of_two c d e h = elim (cases_Bool (c == d)) [ inl p ↦ inl (rw p refl) | inr p ↦ inr (rw p at h) ]

pub nested_is : IsLine token_code nested_line opens
unfolding nested_line list_line dictionary_line values_line entries_line entry_line value_line
nested_is = record {
  decided = refl;
  full = refl;
  first_is = refl;
  closed = refl;
  opening = λ t h. elim (one_of_two (token_code t) (mark_code marks.SquareL) (mark_code marks.BraceL) h) [
    | inl p ↦
        inl (inl (inr (t, p, refl)))
    | inr p ↦ inr (inl (inr (t, p, refl)))
  ];
}

pub value_decides : decides opens value_line ≡ true
unfolding value_line
value_decides = refl

pub value_closed : further opens value_line ≡ []
unfolding value_line
value_closed = refl

pub next_value_decides : decides opens (behind (mark_code marks.Comma) value_form) ≡ true
unfolding value_line
next_value_decides = refl

pub next_entry_decides : decides opens (behind (mark_code marks.Comma) entry_form) ≡ true
unfolding entry_line value_line
next_entry_decides = refl

pub instance_decides : decides opens instance_form ≡ true
unfolding instance_line
instance_decides = refl

pub end_decides : decides opens end_form ≡ true
unfolding end_line dotted_line
end_decides = refl

pub dot_word_decides : decides opens dot_word ≡ true
dot_word_decides = refl

pub composition_member_decides : decides opens composition_member_form ≡ true
unfolding composition_member_line instance_line group_line connection_line end_line dotted_line export_line
composition_member_decides = refl

pub composition_decides : decides opens composition_line ≡ true
unfolding composition_line composition_member_line instance_line group_line connection_line end_line dotted_line export_line
composition_decides = refl

pub composition_closed : further opens composition_line ≡ []
unfolding composition_line
composition_closed = refl

pub setting_decides : decides opens setting_form ≡ true
unfolding setting_line path_line setter_line value_line
setting_decides = refl

pub configuration_decides : decides opens configuration_line ≡ true
unfolding configuration_line setting_line path_line setter_line value_line
configuration_decides = refl

pub configuration_closed : further opens configuration_line ≡ []
unfolding configuration_line
configuration_closed = refl

pub assembly_decides : decides opens assembly_line ≡ true
unfolding assembly_line composition_line composition_member_line instance_line group_line connection_line end_line dotted_line
    export_line configuration_line setting_line path_line setter_line value_line
assembly_decides = refl

pub assembly_closed : further opens assembly_line ≡ []
unfolding assembly_line
assembly_closed = refl

pub param_decides : decides opens param_form ≡ true
unfolding param_line direction_line typed_line
param_decides = refl

pub proc_member_decides : decides opens proc_member_form ≡ true
unfolding proc_member_line import_line method_line typed_line params_line void_params_line other_params_line directed_line
    undirected_line direction_line param_line
proc_member_decides = refl

pub member_decides : decides opens member_form ≡ true
unfolding member_line flag_line import_line interface_line plain_port_line dataport_line buf_line data_line attribute_line
    typed_line lock_line composition_line composition_member_line instance_line group_line connection_line end_line dotted_line
    export_line configuration_line setting_line path_line setter_line value_line
member_decides = refl

pub ended_decides : decides opens ended_form ≡ true
unfolding ended_line item_line procedure_line proc_member_line method_line typed_line params_line void_params_line
    other_params_line directed_line undirected_line direction_line param_line component_line assembly_line member_line flag_line
    import_line interface_line plain_port_line dataport_line buf_line data_line attribute_line lock_line composition_line
    composition_member_line instance_line group_line connection_line end_line dotted_line export_line configuration_line
    setting_line path_line setter_line value_line
ended_decides = refl

pub file_decides : decides opens file_line ≡ true
unfolding file_line ended_line item_line procedure_line proc_member_line method_line typed_line params_line void_params_line
    other_params_line directed_line undirected_line direction_line param_line component_line assembly_line member_line flag_line
    import_line interface_line plain_port_line dataport_line buf_line data_line attribute_line lock_line composition_line
    composition_member_line instance_line group_line connection_line end_line dotted_line export_line configuration_line
    setting_line path_line setter_line value_line
file_decides = refl
