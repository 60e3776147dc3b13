-- The names that most proofs cite, passed on from one place. Declares nothing.
pub use Rattle.authorities.specs.declared.authority.Authority.TheVariants.{Receive}
pub use Rattle.cam_base.proofs.Gathered.{get_front}
pub use Rattle.cap_model.proofs.BootPlaces.{contains_at}
pub use Rattle.cap_model.specs.declared.edge.Edge.{Edge}
pub use Rattle.flow_model.specs.Flow.{Flows, IsClosed, against, along, goes_against, goes_along}
pub use Rattle.label_flow.specs.Chain.{AreSources, Chain, IsApart, IsShortest, Passes, from_holder, to_holder}
pub use Rattle.label_flow.specs.Edges.{AreBelow, turned}
pub use Rattle.label_flow.specs.Exits.{AreExits, exits_of, more_exits, no_exits}
pub use Rattle.label_flow.specs.Search.{IsBack, IsLooking, IsMet, IsPlaced, IsSearch, IsStep, Looks, Searches, blank, is_source, met_found, met_places, passed_to, place_of}
pub use Rattle.label_flow.specs.Told.{AreLines, IsLine, source_word}
pub use Rattle.label_flow.specs.declared.search.Found.{Found}
pub use Rattle.label_flow.specs.declared.search.Search.{Search}
pub use Rattle.policy_text.specs.EdgeLines.{LabelNames, edge_line}
pub use Rattle.std.proofs.Common.{Bool, List, None, Option, Some, [], ap, arith, codes, cond, decimal, false, get_or, inl, inr, length, map, refl, reverse, set, slice_get, subst, suc, sym, take, true, zero, ℕ, ◌&&◌, ◌++◌, ◌+◌, ◌-◌, ◌<◌, ◌==◌, ◌||◌}
pub use Rattle.std.proofs.Common.{◌↔◌, ◌∙◌, ◌∷◌, ◌≡◌, ◌≤◌, ◌⊎◌}
pub use Rattle.std.proofs.lemmas.Bool.{and_parts, cases_eq, cases_lt, eqb-true}
pub use Rattle.std.proofs.lemmas.List.{append-nil, append_assoc, get_or-set_other, get_or-set_same, length-set, length_push, map-append, reverse-append, take_more}
pub use Rattle.std.proofs.lemmas.List.Elements.{Contains-append_left, Contains-push, Contains-push_cases}
pub use Rattle.std.proofs.lemmas.List.Sums.{sum_by-cons, sum_by-set}
pub use Rattle.std.proofs.lemmas.Option.{get_or_from_slice_get, slice_get-get_or, slice_get-map, slice_get_read, slice_get_within}
pub use Rattle.std.specs.List.{Contains, count_by, flat_map}
pub use Rattle.std.specs.Option.{is_none, is_some, option_map}
