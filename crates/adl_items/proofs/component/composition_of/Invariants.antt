use Rattle.adl_items.proofs.Common.{as_composition, drop, filter_map, slice_get, ◌≡◌}
use Rattle.adl_items.proofs.component.composition_of.Given as goal

abbrev pub invariant-loop-member : goal.invariant-loop-member
invariant-loop-member l = slice_get (filter_map as_composition (drop l.member-index l.member-items)) 0 ≡ slice_get
    (filter_map as_composition l.component.members) 0
