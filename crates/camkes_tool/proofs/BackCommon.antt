-- The names that most proofs cite, passed on from one place. Declares nothing.
pub use Rattle.adl_ast.specs.declared.source.Source.{Source}
pub use Rattle.adl_meaning.specs.Flat.{flat_domain, flat_end, flat_ends, flat_of, leaf_of}
pub use Rattle.adl_meaning.specs.Items.{Name, assemblies}
pub use Rattle.adl_meaning.specs.NameFaults.{AreNamesSound}
pub use Rattle.adl_meaning.specs.Paths.{Path, Placed, leaves}
pub use Rattle.adl_meaning.specs.declared.flat.Domain.{Domain}
pub use Rattle.adl_meaning.specs.declared.flat.Flat.{Flat}
pub use Rattle.adl_meaning.specs.declared.flat.FlatConnection.{FlatConnection}
pub use Rattle.adl_meaning.specs.declared.flat.FlatEnd.{FlatEnd}
pub use Rattle.arch_compile.proofs.Facts.{AreFacts, build_facts}
pub use Rattle.arch_compile.proofs.MadeTables.{made_connected, made_fit}
pub use Rattle.arch_compile.proofs.Soundness.{build_sound, labels_are, own_reached}
pub use Rattle.arch_compile.specs.Built.{IsBuildOf, IsMade, labelled, system_tables}
pub use Rattle.arch_compile.specs.LayoutFaults.{images_beside}
pub use Rattle.arch_compile.specs.Sound.{IsSound, object_labels}
pub use Rattle.arch_compile.specs.declared.building.Build.{Build}
pub use Rattle.arch_policy.proofs.Lists.{has_in, in_has}
pub use Rattle.arch_policy.specs.Labels.{label_lines, label_numbers, label_texts}
pub use Rattle.arch_policy.specs.Policies.{IsCertificateOf, IsLockEdge, IsPolicyOf, edge_count, first_edge_fault}
pub use Rattle.arch_policy.specs.Tables.{IsThere, Tables, domain_label, number_of}
pub use Rattle.arch_policy.specs.declared.owner.Owner.{Owner}
pub use Rattle.arch_policy.specs.declared.owner.Owner.TheVariants.{OfConnection, OfDomain, OfLeaf}
pub use Rattle.assigned_laws.proofs.Identifiers.{IsIdentifier, identifiers}
pub use Rattle.assigned_laws.proofs.Ranked.{called_line, find_only, line_called, line_name, line_place, lines_apart, path_there}
pub use Rattle.assigned_laws.specs.Named.{HasPath, IsNamed}
pub use Rattle.authorities.specs.declared.authority.Authority.{Authority}
pub use Rattle.camkes_tool.specs.ReadBack.{IsCertReadBack, IsPolicyReadBack, IsSpecReadBack}
pub use Rattle.camkes_tool.specs.TriosValid.{IsTrioValid}
pub use Rattle.cam_base.proofs.Gathered.{from_gather, from_ones, gather_ones, get_ones, in_append, in_gather, in_left, in_place, in_right, place_of}
pub use Rattle.cam_base.proofs.NumberedLists.{from_filter_map, from_get_map, from_map, get_map, in_map, map_some}
pub use Rattle.cam_base.specs.Gather.{IsIn, gather}
pub use Rattle.cam_base.specs.Names.{is_letter, is_name, is_word_byte}
pub use Rattle.cam_base.specs.Paths.{joined}
pub use Rattle.cam_base.specs.declared.error.Refused.{Refused}
pub use Rattle.cam_base.specs.declared.text_fault.TextFault.{TextFault}
pub use Rattle.cam_io.specs.Contents.{Contents}
pub use Rattle.cap_model.specs.Edges.{edge}
pub use Rattle.cap_model.specs.ObjectLabels.{label_of}
pub use Rattle.cap_model.specs.Policies.{IsPolicy, is_label_byte, is_label_name, label_name}
pub use Rattle.cap_model.specs.Tables.{Has, IsSorted, has}
pub use Rattle.cap_model.specs.declared.edge.Edge.{Edge}
pub use Rattle.cap_model.specs.declared.object_labels.Labels.{Labels}
pub use Rattle.cap_model.specs.declared.policy.Policy.{Policy}
pub use Rattle.cap_model.specs.declared.spec.Entry.{Entry}
pub use Rattle.cap_model.specs.declared.spec.Spec.{Spec}
pub use Rattle.capdl_write.specs.Writable.{IsWritable, is_word}
pub use Rattle.cert_check.specs.Verdicts.{Judged}
pub use Rattle.cert_check.specs.declared.verdict.Verdict.{Verdict}
pub use Rattle.cert_check.specs.declared.verdict.Verdict.TheVariants.{No, Yes}
pub use Rattle.flat_laws.specs.Small.{IsSmall}
pub use Rattle.front_end.specs.First.{first_list_fault, source_tables}
pub use Rattle.policy_text.proofs.EdgeLengths.{cert_short, edge_short, number_short}
pub use Rattle.policy_text.proofs.OneMeaning.{certs_one, policies_one}
pub use Rattle.policy_text.proofs.ReadBack.{cert_back, policy_back}
pub use Rattle.policy_text.specs.Labelled.{IsLabelling, object_label}
pub use Rattle.policy_text.specs.PolicyLines.{cert_text, edge_line, label_line, object_line, policy_text}
pub use Rattle.policy_text.specs.Writable.{IsWritableCert}
pub use Rattle.reach_laws.specs.Flat.{IsFlat}
pub use Rattle.source_images.specs.declared.images.Images.{Images}
pub use Rattle.spec_laws.proofs.Bounds.{can_lay, dotted}
pub use Rattle.spec_laws.proofs.Telling.{names_tell}
pub use Rattle.std.proofs.Common.{Bool, List, None, Ok, Option, Result, Some, [], ap, arith, cond, false, get_or, inl, inr, is_some, length, map, not, refl, subst, suc, sym, true, unwrap_or, ℕ, ◌&&◌, ◌*◌, ◌++◌, ◌+◌, ◌<◌, ◌==◌, ◌∙◌, ◌∷◌, ◌≡◌, ◌≢◌}
pub use Rattle.std.proofs.Common.{◌≤◌, ◌⊎◌}
pub use Rattle.std.proofs.Math.Nat.{le-max_left, le-max_right, mul-suc}
pub use Rattle.std.proofs.lemmas.Bool.{and_from, and_parts, le-leb, leb-true, ltb-false, or_left}
pub use Rattle.std.proofs.lemmas.List.{length-append}
pub use Rattle.std.proofs.lemmas.Option.{get_or_from_slice_get, slice_get-get_or, slice_get_within}
pub use Rattle.std.specs.List.{All, AllPairs, find, flat_map, list_all, range_with_len, slice_get}
pub use Rattle.std.specs.Option.{option_map, option_map_or, option_or}
pub use Rattle.std.specs.Prelude.{codes, decimal, leb, nat_le, nat_lt, ◌↔◌}
pub use Rattle.system_spec.specs.Made.{entry, labels_of, part_label, spec_of}
pub use Rattle.system_spec.specs.Parts.{parts}
pub use Rattle.system_spec.specs.Tables.{frame_owner, irq_owner}
