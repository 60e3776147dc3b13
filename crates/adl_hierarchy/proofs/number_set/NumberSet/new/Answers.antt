use Rattle.adl_hierarchy.proofs.Common.{rules}
use Rattle.adl_hierarchy.proofs.Marks.{marks_new}
use Rattle.adl_hierarchy.proofs.number_set.NumberSet.new.Goals as goal

pub invariant_of-result : goal.invariant_of-result
invariant_of-result c = rw (c.new.ensures, c.in_ok-vec.ensures.items_if_clones_equal (λ y e. search rules))
    (marks_new c.args.size c.ranges.size.fits)
