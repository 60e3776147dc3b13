use Rattle.adl_hierarchy.proofs.Common.{List, arith, get_or, has, inl, inner_of, inr, length, refl, subst, sym, true, ℕ, ◌<◌, ◌∙◌, ◌≡◌, ◌⊎◌}
use Rattle.adl_hierarchy.proofs.Reach.{inner_at, below_next}
use Rattle.adl_hierarchy.proofs.cycles.rises.Goals as goal

pub rises_at-requires-clause-inner : goal.rises_at-requires-clause-inner
rises_at-requires-clause-inner c = λ x e.
    let g = c.args.graph.now in
    let l : c.loop-component.component < length g = omega arith in
    let s : c.as_slice.result.now ≡ inner_of g c.loop-component.component = c.as_slice.ensures
    ∙ inner_at _ _ _ l c.index-graph-component.is in
    let k = c.requires.range _ x l (let P : List ℕ → Type 0 = λ xs. has xs x ≡ true in subst P s e) in
    let n = c.requires.size in
    omega arith

pub rises_at-requires-clause-roots : goal.rises_at-requires-clause-roots
rises_at-requires-clause-roots c = λ x e.
    let g = c.args.graph.now in
    let l : c.loop-component.component < length g = omega arith in
    let s : c.as_slice.result.now ≡ inner_of g c.loop-component.component = c.as_slice.ensures
    ∙ inner_at _ _ _ l c.index-graph-component.is in
    let k = c.requires.roots x (c.requires.range _ x l (let P : List ℕ → Type 0 = λ xs. has xs x ≡ true in subst P s e)) in
    let n = c.requires.ranks in
    omega arith

pub rises_at-requires-clause-root : goal.rises_at-requires-clause-root
rises_at-requires-clause-root c =
    let k = c.requires.roots c.loop-component.component (omega arith) in
    let n = c.requires.ranks in
    omega arith

pub loop-component-preserved : goal.loop-component-preserved
loop-component-preserved c = λ a d l e.
    let g = c.args.graph.now in
    let roots = c.args.roots.now in
    let ranks = c.args.ranks.now in
    let k : ℕ = c.loop-component.component in
    let h : k < length g = omega arith in
    let s : c.as_slice.result.now ≡ inner_of g k = c.as_slice.ensures ∙ inner_at _ _ _ h c.index-graph-component.is in
    elim (below_next k a l) [
      | inl p ↦ c.loop-component.invariant a d p e
      | inr p ↦
          let P : ℕ → Type 0 = λ y. has (inner_of g y) d ≡ true in
          let Q : List ℕ → Type 0 = λ xs. has xs d ≡ true in
          let R : ℕ → Type 0 = λ y. (get_or roots d 0 ≡ get_or roots y 0)
          ⊎ (get_or ranks (get_or roots y 0) 0 < get_or ranks (get_or roots d 0) 0) in
          subst R (sym p) (c.if-not-rises_at.ensures refl d (subst Q (sym s) (subst P p e)))
    ]
