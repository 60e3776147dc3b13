use Rattle.adl_hierarchy.proofs.Common.{Holds, List, MayTell, Option, TellCycles, ap, false, get_or, has, inner_of, is_held, length, subst, true, ℕ, ◌<◌, ◌∙◌, ◌≡◌}
use lib.Dec.{eqb}
use Rattle.adl_hierarchy.proofs.CycleSearch.{told_test}
use Rattle.adl_hierarchy.proofs.Through.{held_test}
use Rattle.adl_hierarchy.proofs.cycles.Cycles.holds_back.Goals as goal

pub returns-in-Some : goal.returns-in-Some
returns-in-Some c =
    let g = c.self.inside.graph in
    let P : Option (List ℕ) → Type 0 = λ o. MayTell g o in
    let t : TellCycles g c.in-Some.numbers = subst P c.in-Some.is c.self.invariant.told in
    let l : c.args.component < length g = rw c.self.view_is c.requires.component in
    let e : has (inner_of g c.args.component) c.args.inner ≡ true = rw c.self.view_is c.requires.inner in
    let s = told_test g c.in-Some.numbers c.self.invariant.range t c.args.component c.args.inner l e in
    ap (λ (ns : List ℕ). eqb (get_or ns c.args.inner 0) (get_or ns c.args.component 0)) c.as_slice-numbers.ensures ∙ s
    ∙ ap (λ (h : List (List ℕ)). is_held h c.args.inner c.args.component) c.self.view_is

pub returns-in_ok-held-in-None : goal.returns-in_ok-held-in-None
returns-in_ok-held-in-None c =
    let g = c.self.inside.graph in
    let l : c.args.component < length g = rw c.self.view_is c.requires.component in
    let e : has (inner_of g c.args.component) c.args.inner ≡ true = rw c.self.view_is c.requires.inner in
    let there : c.as_slice.result.now ≡ g = c.as_slice.ensures in
    let yes : c.in_ok-held-in-None.held ≡ true → Holds g c.args.inner c.args.component =
    let P : List (List ℕ) → Type 0 = λ h. c.in_ok-held-in-None.held ≡ true → Holds h c.args.inner c.args.component in
    subst P there c.in_ok-held-in-None.ensures.yes in
    let no : c.in_ok-held-in-None.held ≡ false → Holds g c.args.inner c.args.component → ⊥ =
    let P : List (List ℕ) → Type 0 = λ h. c.in_ok-held-in-None.held ≡ false → Holds h c.args.inner c.args.component → ⊥ in
    subst P there c.in_ok-held-in-None.ensures.no in
    held_test g c.self.invariant.range c.args.inner c.args.component (c.self.invariant.range c.args.component c.args.inner l e)
    c.in_ok-held-in-None.held yes no
    ∙ ap (λ (h : List (List ℕ)). is_held h c.args.inner c.args.component) c.self.view_is
