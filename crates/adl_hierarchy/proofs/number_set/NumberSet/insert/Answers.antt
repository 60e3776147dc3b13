use Rattle.adl_hierarchy.proofs.Common.{ap, sym}
use Rattle.adl_hierarchy.proofs.Marks.{marks_more}
use Rattle.adl_hierarchy.proofs.number_set.NumberSet.insert.Goals as goal

pub invariant_of-self-then-not-contains : goal.invariant_of-self-then-not-contains
invariant_of-self-then-not-contains c =
    rw c.in_ok-push.ensures.ok
    (marks_more c.self.inside.marks.items c.self.inside.list c.args.number c.self.invariant
    (rw (ap (λ s. s.size) c.self.view_is) c.requires)
    (rw (ap (λ s. s.list) c.self.view_is) (sym c.if-not-contains.ensures)))
