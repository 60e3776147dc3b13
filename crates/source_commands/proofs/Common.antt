-- The names that most proofs cite, passed on from one place. Declares nothing.
pub use Rattle.adl_ast.specs.declared.source.Source.{Source}
pub use Rattle.adl_meaning.specs.Flat.{flat_of}
pub use Rattle.arch_policy.specs.Labels.{label_lines, label_texts}
pub use Rattle.arch_policy.specs.Policies.{IsPolicyOf, first_edge_fault}
pub use Rattle.arch_policy.specs.Reasons.{IsReasoned, Reason, by_bind, by_call, by_direct, by_lock}
pub use Rattle.arch_policy.specs.Tables.{Tables, tables_of}
pub use Rattle.authorities.specs.Authorities.{authority_of, text_of}
pub use Rattle.authorities.specs.declared.authority.Authority.{Authority}
pub use Rattle.cam_base.proofs.Gathered.{from_ones, in_gather, in_place}
pub use Rattle.cam_base.specs.Gather.{IsIn, gather}
pub use Rattle.cam_io.specs.Contents.{Contents}
pub use Rattle.cap_model.specs.Tables.{IsSorted, has}
pub use Rattle.cap_model.specs.declared.edge.Edge.{Edge}
pub use Rattle.explain.specs.Answers.{IsAnswer, explanation, is_assigned}
pub use Rattle.explain.specs.Explained.{AtMost, ComesFirst, Explains, IsAsked, numbers, tell, told_of}
pub use Rattle.explain.specs.declared.answer.Answer.{Answer}
pub use Rattle.explain.specs.declared.answer.Answer.TheVariants.{Assigned, NotAssigned}
pub use Rattle.front_end.proofs.Refusing.{front_sound, tables_are}
pub use Rattle.front_end.specs.First.{first_front_fault, first_list_fault, source_tables}
pub use Rattle.front_end.specs.Fronts.{IsAssigned, IsFrontOf}
pub use Rattle.cam_base.specs.Unread.{SourceError}
pub use Rattle.front_end.specs.declared.phases.FrontEnd.{FrontEnd}
pub use Rattle.source_commands.specs.Explained.{IsAnswered, IsExplained, told}
pub use Rattle.source_commands.specs.Listed.{IsListed, IsListing, IsListingOf, listing_text}
pub use Rattle.source_commands.specs.declared.listing.Listing.{Listing}
pub use Rattle.std.proofs.Common.{Bool, Err, List, None, Ok, Option, Result, Some, [], ap, arith, cond, false, get_or, inl, inr, length, map, refl, subst, sym, true, unwrap_or, ℕ, ◌++◌, ◌+◌, ◌<◌, ◌==◌, ◌↔◌, ◌∙◌, ◌∷◌, ◌≡◌, ◌≢◌}
pub use Rattle.std.proofs.lemmas.Option.{same_Some, slice_get-get_or}
