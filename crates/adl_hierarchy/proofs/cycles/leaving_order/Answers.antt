use Rattle.adl_hierarchy.proofs.Common.{Global, List, Numbers, Vec, ap, arith, has, inner_of, length, subst, sym, true, ℕ, ◌<◌, ◌∙◌, ◌≡◌}
use Rattle.adl_hierarchy.proofs.CycleSearch.{last_below, rest_below}
use Rattle.adl_hierarchy.proofs.Reach.{inner_at}
use Rattle.adl_hierarchy.proofs.cycles.leaving_order.Goals as goal
use Rattle.adl_hierarchy.proofs.cycles.leaving_order.Goals.{then-contains+in_ok-insert, else-contains+in_ok-insert-2+in_ok-push+in_ok-push_unseen}

pub contains-requires : goal.contains-requires
contains-requires c =
    let l = last_below _ _ _ _ c.in-Some.ensures.items c.loop-step.invariant.waiting in
    let s = c.loop-step.invariant.seen in
    omega arith

pub insert-requires : goal.insert-requires
insert-requires c =
    let l = last_below _ _ _ _ c.in-Some.ensures.items c.loop-step.invariant.waiting in
    let s = c.loop-step.invariant.left in
    omega arith

pub insert-requires-else-contains : goal.insert-requires-else-contains
insert-requires-else-contains c =
    let l = last_below _ _ _ _ c.in-Some.ensures.items c.loop-step.invariant.waiting in
    let s = c.loop-step.invariant.seen in
    omega arith

pub bounds-graph-component : goal.bounds-graph-component
bounds-graph-component c = last_below _ _ _ _ c.in-Some.ensures.items c.loop-step.invariant.waiting

pub push_unseen-requires-clause-inner : goal.push_unseen-requires-clause-inner
push_unseen-requires-clause-inner c = λ x e.
    let g = c.args.graph.now in
    let a : ℕ = c.in-Some.component in
    let l : a < length g = last_below _ _ _ _ c.in-Some.ensures.items c.loop-step.invariant.waiting in
    let s : c.as_slice.result.now ≡ inner_of g a = c.as_slice.ensures ∙ inner_at _ _ _ l c.index-graph-component.is in
    let P : List ℕ → Type 0 = λ xs. has xs x ≡ true in
    let k : x < length g = c.requires.range a x l (subst P s e) in
    let size : c.insert-else-contains.new.self.size ≡ length g = ap (λ (z : Numbers). z.size) c.in_ok-insert-2.ensures
    ∙ c.loop-step.invariant.seen in
    omega arith

pub push_unseen-requires-clause-waiting : goal.push_unseen-requires-clause-waiting
push_unseen-requires-clause-waiting c = λ x e.
    let g = c.args.graph.now in
    let k : x < length g = c.loop-step.invariant.waiting x (let P : List ℕ → Type 0 = λ xs. has xs x ≡ true in
    subst P (c.in_ok-push.ensures.items ∙ sym c.in-Some.ensures.items) e) in
    let size : c.insert-else-contains.new.self.size ≡ length g = ap (λ (z : Numbers). z.size) c.in_ok-insert-2.ensures
    ∙ c.loop-step.invariant.seen in
    omega arith

pub loop-step-preserved : goal.loop-step-preserved
loop-step-preserved c =
    let n = length c.args.graph.now in
    let P : Numbers → Type 0 = λ z. z.size ≡ n in
    let Q : Vec ℕ Global → Type 0 = λ v. (x : ℕ) → has v.items x ≡ true → x < n in
    elim c.if-contains.branch [
      | then-contains+in_ok-insert w ↦ record {
        seen = subst P (sym w.seen-is) c.loop-step.invariant.seen;
        left = subst P (sym w.left-is) (ap (λ (z : Numbers). z.size) w.in_ok-insert.ensures ∙ c.loop-step.invariant.left);
        waiting = subst Q (sym w.waiting-is) (rest_below _ _ _ n c.in-Some.ensures.items c.loop-step.invariant.waiting);
      }
      | else-contains+in_ok-insert-2+in_ok-push+in_ok-push_unseen w ↦
          let size : w.insert-else-contains.new.self.size ≡ n = ap (λ (z : Numbers). z.size) w.in_ok-insert-2.ensures
          ∙ c.loop-step.invariant.seen in
          let R : ℕ → Type 0 = λ m. (x : ℕ) → has w.push_unseen.new.waiting.items x ≡ true → x < m in
          record {
            seen = subst P (sym w.seen-is) size;
            left = subst P (sym w.left-is) c.loop-step.invariant.left;
            waiting = subst Q (sym w.waiting-is) (subst R size w.in_ok-push_unseen.ensures);
          }
    ]
