use Rattle.adl_hierarchy.proofs.Common.{List, [], ap, arith, get_or, has, inner_of, inr, length, length-set, refl, set, subst, sym, true, ℕ, ◌++◌, ◌<◌, ◌∙◌, ◌∷◌, ◌≡◌, ◌⊎◌}
use Rattle.adl_hierarchy.proofs.CycleSearch.{turned_more}
use Rattle.adl_hierarchy.proofs.Marks.{has_at}
use Rattle.adl_hierarchy.proofs.Reach.{inner_at}
use Rattle.adl_hierarchy.proofs.cycles.add_outer.Goals as goal

pub loop-number-init : goal.loop-number-init
loop-number-init c = record { size = refl; edges = λ d a e. inr e }

pub index_mut-requires : goal.index_mut-requires
index_mut-requires c =
    let s = c.loop-number.invariant.size in
    let l = c.requires _ (has_at c.args.inner.now c.loop-number.number-index (omega arith)) in
    omega arith

pub loop-number-preserved : goal.loop-number-preserved
loop-number-preserved c =
    let ws = c.loop-number.outer.items in
    let old = c.args.outer.now.items in
    let inner = c.args.inner.now in
    let a = c.args.component in
    let d : ℕ = get_or inner c.loop-number.number-index 0 in
    let e : has inner d ≡ true = has_at inner c.loop-number.number-index (omega arith) in
    let s = c.loop-number.invariant.size in
    let l = c.requires d e in
    let h : d < length ws = omega arith in
    let v : c.index_mut.result.now ≡ inner_of ws d = inner_at ws d _ h c.index_mut.ensures.value in
    let w : c.push.new.self ≡ inner_of ws d ++ a ∷ [] = c.in_ok-push.ensures.ok ∙ ap (λ xs. xs ++ a ∷ []) v in
    let P : List ℕ → Type 0 = λ v. (c x : ℕ) → has (inner_of (set ws d v) c) x ≡ true → ((x ≡ a) × (has inner c ≡ true))
    ⊎ (has (inner_of old c) x ≡ true) in
    record {
      size = length-set ws d c.push.new.self ∙ s;
      edges = subst P (sym w) (turned_more ws old inner a d h e c.loop-number.invariant.edges);
    }
