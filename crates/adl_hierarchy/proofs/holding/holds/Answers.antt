use Rattle.adl_hierarchy.proofs.Common.{HasMore, List, Numbers, ap, get_or, has, inner_of, length, subst, sym, true, with_number, ℕ, ◌<◌, ◌∙◌, ◌≡◌}
use Rattle.adl_hierarchy.proofs.Marks.{has_at}
use Rattle.adl_hierarchy.proofs.Reach.{inner_at, reach_new, reach_more, reach_end}
use Rattle.adl_hierarchy.proofs.holding.holds.Goals as goal

pub loop-next-init : goal.loop-next-init
loop-next-init c =
    reach_new _ _ _ (c.in_ok-insert.ensures
    ∙ ap (λ (s : Numbers). record { size = s.size; list = with_number s.list c.args.from }) c.in_ok-found.ensures)

pub bounds-graph-component : goal.bounds-graph-component
bounds-graph-component c =
    let n : c.loop-next.next < length c.loop-next.found.list = rw (← c.list.ensures.list) c.loop-next-test.true in
    rw (c.list-in-loop-next.ensures.list, ← c.loop-next.invariant.size) (c.list.ensures.below _ (has_at _ _ n))

pub add_each-requires : goal.add_each-requires
add_each-requires c = λ x e.
    let n : c.loop-next.next < length c.loop-next.found.list = rw (← c.list.ensures.list) c.loop-next-test.true in
    let a : get_or c.list-in-loop-next.result.now c.loop-next.next 0 < length c.args.graph.now =
    rw (c.list-in-loop-next.ensures.list, ← c.loop-next.invariant.size) (c.list.ensures.below _ (has_at _ _ n)) in
    rw c.loop-next.invariant.size (c.requires.range _ x a (let P : List ℕ → Type 0 = λ xs. has xs x ≡ true in
    subst P (c.as_slice.ensures ∙ inner_at _ _ _ a c.index-graph-component.is) e))

pub loop-next-preserved : goal.loop-next-preserved
loop-next-preserved c =
    let n : c.loop-next.next < length c.loop-next.found.list = rw (← c.list.ensures.list) c.loop-next-test.true in
    let a : get_or c.list-in-loop-next.result.now c.loop-next.next 0 < length c.args.graph.now =
    rw (c.list-in-loop-next.ensures.list, ← c.loop-next.invariant.size) (c.list.ensures.below _ (has_at _ _ n)) in
    let s : c.as_slice.result.now ≡ inner_of c.args.graph.now (get_or c.loop-next.found.list c.loop-next.next 0) =
    c.as_slice.ensures ∙ inner_at _ _ _ a c.index-graph-component.is
    ∙ ap (λ xs. inner_of c.args.graph.now (get_or xs c.loop-next.next 0)) c.list-in-loop-next.ensures.list in
    reach_more _ _ _ _ _ n c.loop-next.invariant (let P : List ℕ
    → Type 0 = λ xs. HasMore xs c.loop-next.found c.add_each.new.found in subst P s c.in_ok-add_each.ensures)

pub returns-clause-no : goal.returns-clause-no
returns-clause-no c = λ e. reach_end _ _ _ _ _ c.loop-next.invariant (rw (← c.list.ensures.list) c.loop-next-test.false)
    (sym c.contains.ensures ∙ e)
