-- The names that most proofs cite, passed on from one place. Declares nothing.
pub use Rattle.authorities.specs.Authorities.{number_of}
pub use Rattle.authorities.specs.declared.authority.Authority.{Authority}
pub use Rattle.authorities.specs.declared.authority.Authority.TheVariants.{AsyncSend, Call, Control, Grant, GrantBack, Handle, Receive, Reply}
pub use Rattle.cam_base.proofs.Orders.{same_itself}
pub use Rattle.cap_machine.proofs.Gathering.{OfFirst, all_first, first_more, first_more_at, none_first}
pub use Rattle.cap_machine.specs.Sources.{OfCap, OfEach, OfObject}
pub use Rattle.cap_model.proofs.EdgeOrder.{edges_same, same_edge_self, same_edge_true, same_number}
pub use Rattle.cap_model.proofs.TableMembers.{at_has, has_at}
pub use Rattle.cap_model.specs.Adds.{Adds}
pub use Rattle.cap_model.specs.Edges.{edge, same_edge}
pub use Rattle.cap_model.specs.ObjectLabels.{label_of}
pub use Rattle.cap_model.specs.Tables.{Has, IsSorted, has}
pub use Rattle.cap_model.specs.declared.edge.Edge.{Edge}
pub use Rattle.cap_model.specs.declared.spec.Entry.{Entry}
pub use Rattle.cap_model.specs.declared.spec.Spec.{Spec}
pub use Rattle.least_cert.specs.BootEdges.{AreHeld, AreLinks, OfHolder, OfHolders, OfOther, OfOthers, between_labels}
pub use Rattle.least_cert.specs.Closing.{AddsAll, AddsSome, AreAsked, AreCopies, AreGifts, AreOut, ArePassed, AreReceivers, AreReplies, AreTo, Begins, Closes, Closure, Copies, Flows, Gifted, Gives, GivesAll, GivesSome, Grows, HasBoot, IsAnswer}
pub use Rattle.least_cert.specs.Closing.{IsCertificate, IsClosedFor, IsCopy, IsEmpty, IsGift, IsLess, IsRelabeled, IsSound, IsSpread, Joins, JoinsEnds, Knows, Looks, LooksAt, OfLeast, Puts, PutsGift, Relabels, Widens, from_other, lead, leader_at}
pub use Rattle.least_cert.specs.Closing.{led_by, passed_to, receiver, stays, to_other, turn}
pub use Rattle.least_cert.specs.LeastCertificate.{HasMoreThan, InLeast, IsLeast, KeepsRules}
pub use Rattle.std.proofs.Common.{Bool, IsTrue, List, None, Option, Some, [], ap, append_assoc, arith, false, get_or, if◌then◌else◌, inl, inr, length, length-append, ltb, map, refl, rules, slice_get, subst, suc, sym, take, true, zero, ℕ, ◌&&◌, ◌++◌}
pub use Rattle.std.proofs.Common.{◌+◌, ◌-◌, ◌<◌, ◌==◌, ◌^◌, ◌||◌, ◌↔◌, ◌∙◌, ◌∷◌, ◌≡◌, ◌≢◌, ◌≤◌, ◌⊎◌}
pub use Rattle.std.proofs.lemmas.Bool.{cases_lt, eq-eqb, eqb-true, le-ltb, ne_eqb, or_cases, or_left, or_right}
pub use Rattle.std.proofs.lemmas.List.{get_or-map, get_or_past, length-map, take-append-le, take_all, take_more}
pub use Rattle.std.proofs.lemmas.Option.{get_or_from_slice_get, slice_get-get_or, slice_get-map, slice_get_read, slice_get_within}
pub use Rattle.std.specs.List.{Contains, filter_map}
