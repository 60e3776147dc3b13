use Rattle.adl_hierarchy.proofs.Common.{AreHeldBy, Holds, List, [], ap, arith, get_or, get_or_default, has, length, refl, subst, sym, true, ℕ, ◌++◌, ◌<◌, ◌∙◌, ◌∷◌, ◌≡◌}
use Rattle.adl_hierarchy.proofs.CycleSearch.{root_more, held_first}
use Rattle.adl_hierarchy.proofs.Marks.{has_at}
use Rattle.adl_hierarchy.proofs.cycles.spread.Goals as goal

pub loop-next-init : goal.loop-next-init
loop-next-init c =
    let g = c.args.graph.now in
    let S : List ℕ → Type 0 = λ xs. AreHeldBy g c.args.root xs in
    record {
      roots = root_more g c.args.roots.now.items c.args.root c.args.root c.requires.roots c.requires.root (0, refl);
      waiting =
          subst S (sym (c.in_ok-push.ensures.items ∙ ap (λ (xs : List ℕ). xs ++ c.args.root ∷ []) c.new-waiting.ensures.items))
          (held_first g c.args.root c.requires.root);
    }

waits : (g : List (List ℕ)) (root next x : ℕ) (waiting : List ℕ) → AreHeldBy g root waiting → next < length waiting
    → x ≡ get_or waiting next x → (x < length g) × Holds g root x
waits g root next x waiting are l e = are x (let P : ℕ → Type 0 = λ y. has waiting y ≡ true in
    subst P (sym (e ∙ get_or_default waiting next x 0 l)) (has_at waiting next l))

pub spread_once-requires-clause-component : goal.spread_once-requires-clause-component
spread_once-requires-clause-component c =
    (waits _ _ c.loop-next.next _ c.loop-next.waiting.items c.loop-next.invariant.waiting
    (omega (arith, c.len.ensures, c.if-next-len.false)) c.index-component.ensures).0

pub spread_once-requires-clause-held : goal.spread_once-requires-clause-held
spread_once-requires-clause-held c =
    (waits _ _ c.loop-next.next _ c.loop-next.waiting.items c.loop-next.invariant.waiting
    (omega (arith, c.len.ensures, c.if-next-len.false)) c.index-component.ensures).1
