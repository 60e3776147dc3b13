use Rattle.adl_hierarchy.proofs.Common.{List, Numbers, Placing, [], ap, arith, get_or, get_or_default, has, inner_of, length, on_ok_weaker, refl, set, subst, sym, take, true, with_item, ℕ, ◌++◌, ◌<◌, ◌∙◌, ◌∷◌, ◌≡◌, ◌≤◌}
use Rattle.adl_hierarchy.proofs.Marks.{has_at}
use Rattle.adl_hierarchy.proofs.Reach.{inner_at}
use Rattle.adl_hierarchy.proofs.Waiting.{placing_waits, settles_waits, placing_placed, settles_placed}
use Rattle.adl_hierarchy.proofs.placing.Placing.settle.Goals as goal

pub next_open-next-requires-clause-range : goal.next_open-next-requires-clause-range
next_open-next-requires-clause-range c = λ x e.
    let s : c.as_slice-inner.result.now ≡ inner_of c.args.graph.now c.args.component = c.as_slice-inner.ensures
    ∙ inner_at _ _ _ c.requires.component c.index-graph-component.is in
    let P : List ℕ → Type 0 = λ xs. has xs x ≡ true in
    rw c.requires.placing.size (c.requires.range _ x c.requires.component (subst P s e))

pub next_open-next-requires-clause-past : goal.next_open-next-requires-clause-past
next_open-next-requires-clause-past c = λ x e.
    let s : c.as_slice-inner.result.now ≡ inner_of c.args.graph.now c.args.component = c.as_slice-inner.ensures
    ∙ inner_at _ _ _ c.requires.component c.index-graph-component.is in
    let l : c.args.component < length c.args.self.now.past.items = rw c.requires.placing.pasts c.requires.component in
    let p : c.index.result.now ≡ get_or c.args.self.now.past.items c.args.component 0 = c.index.ensures
    ∙ get_or_default c.args.self.now.past.items c.args.component _ 0 l in
    let P : List ℕ → Type 0 = λ xs. has (take c.index.result.now xs) x ≡ true in
    let Q : ℕ → Type 0 = λ n. has (take n (inner_of c.args.graph.now c.args.component)) x ≡ true in
    c.requires.placing.past _ x c.requires.component (subst Q p (subst P s e))

pub index_mut-requires-then-next-inner : goal.index_mut-requires-then-next-inner
index_mut-requires-then-next-inner c =
    let s : c.as_slice-inner.result.now ≡ inner_of c.args.graph.now c.args.component = c.as_slice-inner.ensures
    ∙ inner_at _ _ _ c.requires.component c.index-graph-component.is in
    let d : ℕ = get_or c.as_slice-inner.result.now c.next_open-next.result 0 in
    let P : List ℕ → Type 0 = λ xs. has xs d ≡ true in
    let l : d < length c.args.graph.now =
    c.requires.range _ d c.requires.component (subst P s (has_at _ _ c.if-next-inner.true)) in
    let n = c.requires.placing.lists in
    omega arith

pub returns-then-next-inner : goal.returns-then-next-inner
returns-then-next-inner c =
    let g = c.args.graph.now in
    let a = c.args.component in
    let ws = c.args.self.now.waiting.items in
    let next = c.next_open-next.result in
    let s : c.as_slice-inner.result.now ≡ inner_of g a = c.as_slice-inner.ensures ∙ inner_at _ _ _ c.requires.component
    c.index-graph-component.is in
    let d : ℕ = get_or c.as_slice-inner.result.now next 0 in
    let P : List ℕ → Type 0 = λ xs. has xs d ≡ true in
    let inner : has (inner_of g a) d ≡ true = subst P s (has_at _ _ c.if-next-inner.true) in
    let l : d < length g = c.requires.range _ d c.requires.component inner in
    let h : d < length ws = rw c.requires.placing.lists l in
    let v : c.index_mut-then-next-inner.result.now ≡ inner_of ws d =
    inner_at ws d _ h c.index_mut-then-next-inner.ensures.value in
    let Q : ℕ → List ℕ → Type 0 = λ x xs. has (take next xs) x ≡ true in
    let old = c.args.self.now in
    let new : Placing = record {
      placed = old.placed;
      past = with_item old.past a next;
      waiting = with_item old.waiting d c.push.new.self;
    } in
    record {
      placing = on_ok_weaker _ (λ e. placing_waits g old new a next d c.requires.placing c.requires.component l
          (λ x t. c.next_open-next.ensures.past x (subst (Q x) (sym s) t)) refl refl
          (ap (set ws d) (e ∙ ap (λ xs. xs ++ a ∷ []) v))) c.push.ensures.ok;
      settles = on_ok_weaker _ (λ e. settles_waits g old new a d h inner (c.next_open-next.ensures.unplaced c.if-next-inner.true)
          refl (ap (set ws d) (e ∙ ap (λ xs. xs ++ a ∷ []) v))) c.push.ensures.ok;
    }

pub returns-else-next-inner : goal.returns-else-next-inner
returns-else-next-inner c =
    let g = c.args.graph.now in
    let a = c.args.component in
    let next = c.next_open-next.result in
    let s : c.as_slice-inner.result.now ≡ inner_of g a = c.as_slice-inner.ensures ∙ inner_at _ _ _ c.requires.component
    c.index-graph-component.is in
    let len : length c.as_slice-inner.result.now ≡ length (inner_of g a) = ap length s in
    let all : length (inner_of g a) ≤ next = omega (arith, c.if-next-inner.false) in
    let Q : ℕ → List ℕ → Type 0 = λ x xs. has (take next xs) x ≡ true in
    let old = c.args.self.now in
    let new : Placing = record { placed = c.insert.new.self; past = with_item old.past a next; waiting = old.waiting } in
    record {
      placing = on_ok_weaker _ (λ e. placing_placed g old new a next c.requires.placing c.requires.component all
          (λ x t. c.next_open-next.ensures.past x (subst (Q x) (sym s) t)) (ap (λ (z : Numbers). z.size) e)
          (ap (λ (z : Numbers). z.list) e) refl refl) c.insert.ensures;
      settles = on_ok_weaker _ (λ e. settles_placed g old new a (ap (λ (z : Numbers). z.list) e) refl) c.insert.ensures;
    }
