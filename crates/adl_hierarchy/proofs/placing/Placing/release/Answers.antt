use Rattle.adl_hierarchy.proofs.Common.{List, Placing, Settles, [], ap, arith, get_or, has, inner_of, length, on_ok_weaker, refl, set, subst, true, with_item, ℕ, ◌<◌, ◌∙◌, ◌≡◌}
use Rattle.adl_hierarchy.proofs.Reach.{inner_at}
use Rattle.adl_hierarchy.proofs.Waiting.{placed_at, placing_taken, waits_released}
use Rattle.adl_hierarchy.proofs.placing.Placing.release.Goals as goal

pub index_mut-requires : goal.index_mut-requires
index_mut-requires c =
    let h = placed_at _ _ _ _ c.requires.placing c.list.ensures.below c.requires.index c.list.ensures.list in
    let n = c.requires.placing.lists in
    omega (arith, h)

pub settle_each-requires-clause-components : goal.settle_each-requires-clause-components
settle_each-requires-clause-components c = λ x e.
    let ws = c.args.self.now.waiting.items in
    let d : ℕ = get_or c.list.result.now c.args.index 0 in
    let l : d < length c.args.graph.now = placed_at _ _ _ _ c.requires.placing c.list.ensures.below c.requires.index
    c.list.ensures.list in
    let h : d < length ws = rw c.requires.placing.lists l in
    let o : c.as_slice.result.now ≡ inner_of ws d = c.as_slice.ensures ∙ c.replace-outer.ensures.value
    ∙ inner_at ws d _ h c.index_mut.ensures.value in
    let P : List ℕ → Type 0 = λ xs. has xs x ≡ true in
    c.requires.placing.below x d (subst P o e)

pub settle_each-requires-clause-placing : goal.settle_each-requires-clause-placing
settle_each-requires-clause-placing c =
    let old = c.args.self.now in
    let d : ℕ = get_or c.list.result.now c.args.index 0 in
    let mid : Placing = record {
      placed = old.placed;
      past = old.past;
      waiting = with_item old.waiting d c.replace-outer.new.dest;
    } in
    let l : d < length c.args.graph.now = placed_at _ _ _ _ c.requires.placing c.list.ensures.below c.requires.index
    c.list.ensures.list in
    placing_taken c.args.graph.now old mid d c.requires.placing l refl refl
    (ap (set old.waiting.items d) (c.replace-outer.ensures.after ∙ c.new.ensures))

pub returns-clause-waits : goal.returns-clause-waits
returns-clause-waits c =
    let g = c.args.graph.now in
    let old = c.args.self.now in
    let ws = old.waiting.items in
    let d : ℕ = get_or c.list.result.now c.args.index 0 in
    let mid : Placing = record {
      placed = old.placed;
      past = old.past;
      waiting = with_item old.waiting d c.replace-outer.new.dest;
    } in
    let s : d ≡ get_or old.placed.list c.args.index 0 = ap (λ xs. get_or xs c.args.index 0) c.list.ensures.list in
    let l : d < length g = placed_at _ _ _ _ c.requires.placing c.list.ensures.below c.requires.index c.list.ensures.list in
    let h : d < length ws = rw c.requires.placing.lists l in
    let o : c.as_slice.result.now ≡ inner_of ws d = c.as_slice.ensures ∙ c.replace-outer.ensures.value
    ∙ inner_at ws d _ h c.index_mut.ensures.value in
    let P : List ℕ → Type 0 = λ xs. Settles g mid c.settle_each.new.self (λ x. has xs x ≡ true) in
    on_ok_weaker _ (λ t. waits_released g old mid c.settle_each.new.self c.args.index c.requires.index refl
    (ap (set ws d) (c.replace-outer.ensures.after ∙ c.new.ensures) ∙ ap (λ j. set ws j []) s)
    c.requires.waits (subst P (o ∙ ap (inner_of ws) s) t)) c.settle_each.ensures.settles
