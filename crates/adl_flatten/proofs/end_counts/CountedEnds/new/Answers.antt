use Rattle.adl_flatten.proofs.Common.{JoinedEnd, List, false, subst, true}
use Rattle.adl_flatten.proofs.EndLookups.{apart_seen, once_seen}
use Rattle.adl_flatten.specs.TemplateJoins.{AreSeen}
use Rattle.adl_flatten.proofs.end_counts.CountedEnds.new.Goals as goal

pub invariant_of-result : goal.invariant_of-result
invariant_of-result c =
    subst (λ (es : List JoinedEnd). AreSeen c.add_apart.new.seen.entries true es) c.as_slice-then-several.ensures.value
    (apart_seen c.add_apart.new.seen.entries c.as_slice-then-several.result.now c.in_ok-add_apart.ensures)

pub invariant_of-result-2 : goal.invariant_of-result-2
invariant_of-result-2 c =
    subst (λ (es : List JoinedEnd). AreSeen c.add_all.new.seen.entries false es) c.as_slice.ensures.value
    (once_seen c.add_all.new.seen.entries c.as_slice.result.now c.in_ok-several.ensures.seen
    (c.in_ok-several.ensures.once c.if-several.false))
