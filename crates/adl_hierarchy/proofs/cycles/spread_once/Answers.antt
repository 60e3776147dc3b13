use Rattle.adl_hierarchy.proofs.Common.{AreHeldBy, AreRoots, Global, Holds, List, Vec, arith, get_or, has, inner_of, length, subst, sym, true, ℕ, ◌<◌, ◌∙◌, ◌≡◌}
use Rattle.adl_hierarchy.proofs.CycleSearch.{one_more, root_more, held_more}
use Rattle.adl_hierarchy.proofs.Marks.{has_at}
use Rattle.adl_hierarchy.proofs.Reach.{inner_at}
use Rattle.adl_hierarchy.proofs.cycles.spread_once.Goals as goal
use Rattle.adl_hierarchy.proofs.cycles.spread_once.Goals.{then-index-graph+in_ok-push, else-index-graph}

pub index-requires : goal.index-requires
index-requires c =
    let s : c.as_slice-inner-items.result.now ≡ inner_of c.args.graph.now c.args.component = c.as_slice-inner-items.ensures
    ∙ inner_at _ _ _ c.requires.component c.index-graph-component.is in
    let d : ℕ = get_or c.as_slice-inner-items.result.now c.loop-inner.inner-index 0 in
    let P : List ℕ → Type 0 = λ xs. has xs d ≡ true in
    let l = c.requires.range _ d c.requires.component (subst P s (has_at _ _ c.loop-inner-test.true)) in
    let n = c.loop-inner.invariant.roots.size in
    omega arith

pub index_mut-requires : goal.index_mut-requires
index_mut-requires c =
    let s : c.as_slice-inner-items.result.now ≡ inner_of c.args.graph.now c.args.component = c.as_slice-inner-items.ensures
    ∙ inner_at _ _ _ c.requires.component c.index-graph-component.is in
    let d : ℕ = get_or c.as_slice-inner-items.result.now c.loop-inner.inner-index 0 in
    let P : List ℕ → Type 0 = λ xs. has xs d ≡ true in
    let l = c.requires.range _ d c.requires.component (subst P s (has_at _ _ c.loop-inner-test.true)) in
    let n = c.loop-inner.invariant.roots.size in
    omega arith

pub loop-inner-preserved : goal.loop-inner-preserved
loop-inner-preserved c =
    let g = c.args.graph.now in
    let s : c.as_slice-inner-items.result.now ≡ inner_of g c.args.component = c.as_slice-inner-items.ensures
    ∙ inner_at _ _ _ c.requires.component c.index-graph-component.is in
    let d : ℕ = get_or c.as_slice-inner-items.result.now c.loop-inner.inner-index 0 in
    let P : List ℕ → Type 0 = λ xs. has xs d ≡ true in
    let e : has (inner_of g c.args.component) d ≡ true = subst P s (has_at _ _ c.loop-inner-test.true) in
    let l : d < length g = c.requires.range _ d c.requires.component e in
    let k : Holds g c.args.root d = one_more g c.args.root c.args.component d c.requires.held e in
    let Q : Vec ℕ Global → Type 0 = λ v. AreRoots g v.items in
    let R : Vec ℕ Global → Type 0 = λ v. AreHeldBy g c.args.root v.items in
    let S : List ℕ → Type 0 = λ xs. AreHeldBy g c.args.root xs in
    elim c.if-index-graph.branch [
      | then-index-graph+in_ok-push w ↦ record {
        roots = subst Q (sym w.roots-is) (root_more g c.loop-inner.roots.items c.args.root d c.loop-inner.invariant.roots l k);
        waiting =
            subst R (sym w.waiting-is) (subst S (sym w.in_ok-push.ensures.items)
            (held_more g c.args.root d c.loop-inner.waiting.items c.loop-inner.invariant.waiting l k));
      }
      | else-index-graph w ↦ record {
        roots = subst Q (sym w.roots-is) c.loop-inner.invariant.roots;
        waiting = subst R (sym w.waiting-is) c.loop-inner.invariant.waiting;
      }
    ]
