use Rattle.cap_model.proofs.Common.{suc, ◌∙◌}
use Rattle.cap_model.proofs.EdgesLeft.{begun, head_at, later_at}
use Rattle.cap_model.proofs.walk.EdgesIterator.next.Goals as goal

pub class_of-class-requires : goal.class_of-class-requires
class_of-class-requires c = c.loop-self.self.classed 0 c.row-item.result
    (head_at c.loop-self.self.rows.now c.row-item.result c.in-len1-up-rows.len_at_least c.row-item.is)

pub split_at-requires : goal.split_at-requires
split_at-requires c = rw c.deref.ensures.value (c.loop-self.self.parted c.row-item.result.class c.class_of-class.result.now
    c.class_of-class.ensures)

pub invariant_of-self-in-loop-self : goal.invariant_of-self-in-loop-self
invariant_of-self-in-loop-self c = record {
  classed = λ i s e. c.loop-self.self.classed (suc i) s (later_at c.loop-self.self.rows.now c.row-item.result
      c.in-len1-up-rows.len_at_least c.row-item.is i s e);
  parted = c.loop-self.self.parted;
}

pub loop-self-preserved : goal.loop-self-preserved
loop-self-preserved c =
    begun c.loop-self.self.rows.now c.row-item.result c.in-len1-up-rows.len_at_least c.row-item.is c.loop-self.self.classes.now
    c.class_of-class.result.now c.loop-self.self.label c.loop-self.self.before.now c.loop-self.self.behind.now
    c.split_at.result.0.now c.split_at.result.1.now c.loop-self.self.replies.now c.as_slice-self.result.now
    c.class_of-class.ensures c.in_default.len_below c.in_default-replies.len_below c.in_default-behind.len_below
    (rw c.deref.ensures.value at c.split_at.ensures.front) (rw c.deref.ensures.value at c.split_at.ensures.back)
    c.as_slice-self.ensures.value
    ∙ c.loop-self.invariant
