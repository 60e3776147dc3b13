-- The names that most proofs cite, passed on from one place. Declares nothing.
pub use Rattle.adl_meaning.proofs.Prelude.{AreNamesSound, Bool, End, Fault, Hierarchy, IsIn, List, None, Source, Strung, [], ap, arith, at_word, body, cases_eq, connections, drop, false, flat_map, hierarchy_of, inl, inr, least-empty, length, map, none_in, none_left, none_right, not, noted, option_map_or, refl, suc, top_number, true, where_true, wires_of, zero, ℕ, ◌&&◌, ◌++◌, ◌+◌, ◌<◌, ◌∙◌, ◌∷◌, ◌≡◌, ◌≤◌}
pub use Rattle.adl_types.specs.TypeFaults.{body_faults, end_faults, faults_at, faults_below, first_leaf, first_led, first_type_fault, led_faults, led_wire_faults, may_have, size_faults, type_faults, wire_faults}
