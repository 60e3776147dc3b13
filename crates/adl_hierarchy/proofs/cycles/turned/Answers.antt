use Rattle.adl_hierarchy.proofs.Common.{List, arith, both_ways, has, inl, inner_of, inr, length, subst, sym, true, ℕ, ◌+◌, ◌<◌, ◌∙◌, ◌≡◌}
use Rattle.adl_hierarchy.proofs.Reach.{inner_at}
use Rattle.adl_hierarchy.proofs.cycles.turned.Goals as goal

pub loop-component-init : goal.loop-component-init
loop-component-init c = record {
  size = c.in_ok-outer.ensures.size;
  edges = λ d a e. absurd (both_ways _ (c.in_ok-outer.ensures.none d a) e);
}

pub add_outer-requires : goal.add_outer-requires
add_outer-requires c = λ x e.
    let a = c.loop-component.component in
    let l : a < length c.args.graph.now = omega arith in
    let s : c.as_slice.result.now ≡ inner_of c.args.graph.now a = c.as_slice.ensures
    ∙ inner_at _ _ _ l c.index-graph-component.is in
    let P : List ℕ → Type 0 = λ xs. has xs x ≡ true in
    let k = c.requires.range a x l (subst P s e) in
    let n = c.loop-component.invariant.size in
    omega arith

pub loop-component-preserved : goal.loop-component-preserved
loop-component-preserved c =
    let a = c.loop-component.component in
    let l : a < length c.args.graph.now = omega arith in
    let s : c.as_slice.result.now ≡ inner_of c.args.graph.now a = c.as_slice.ensures
    ∙ inner_at _ _ _ l c.index-graph-component.is in
    record {
      size = c.in_ok-add_outer.ensures.size ∙ c.loop-component.invariant.size;
      edges = λ d x e. elim (c.in_ok-add_outer.ensures.edges d x e) [
        | inl k ↦
            let P : List ℕ → Type 0 = λ xs. has xs d ≡ true in
            let Q : ℕ → Type 0 = λ y. (y < a + 1) × (has (inner_of c.args.graph.now y) d ≡ true) in
            subst Q (sym k.0) (omega arith, subst P s k.1)
        | inr k ↦ let q = c.loop-component.invariant.edges d x k in (omega (arith, q.0), q.1)
      ];
    }

pub returns : goal.returns
returns c = record {
  size = c.loop-component.invariant.size;
  edges = λ d a e.
      let k = c.loop-component.invariant.edges d a e in
      let l = k.0 in
      (omega arith, k.1);
}
