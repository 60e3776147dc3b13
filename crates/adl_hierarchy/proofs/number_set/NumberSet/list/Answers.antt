use Rattle.adl_hierarchy.proofs.Marks.{marks_few}
use Rattle.adl_hierarchy.proofs.number_set.NumberSet.list.Goals as goal

pub returns-clause-few : goal.returns-clause-few
returns-clause-few c = rw (← c.self.view_is) (marks_few c.self.inside.marks.items c.self.inside.list c.self.invariant)
