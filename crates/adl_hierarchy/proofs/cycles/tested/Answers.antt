use Rattle.adl_hierarchy.proofs.Common.{List, TellCycles, get_or, has, inner_of, length, refl, subst, sym, true, ℕ, ◌<◌, ◌≡◌, ◌⊎◌}
use Rattle.adl_hierarchy.proofs.CycleSearch.{told}
use Rattle.adl_hierarchy.proofs.cycles.tested.Goals as goal

pub returns-then-rises : goal.returns-then-rises
returns-then-rises c =
    let g = c.args.graph.now in
    let others = c.args.others.now in
    let ranks = c.args.ranks.now in
    let A : List ℕ → Type 0 = λ rs. (x : ℕ) → x < length g → (get_or rs x 0 < length g) × (get_or rs x 0 ≡ get_or others x 0) in
    let R : List ℕ → Type 0 = λ rs. (a d : ℕ) → a < length g → has (inner_of g a) d ≡ true
    → (get_or rs d 0 ≡ get_or rs a 0) ⊎ (get_or ranks (get_or rs a 0) 0 < get_or ranks (get_or rs d 0) 0) in
    let P : List ℕ → Type 0 = λ ns. TellCycles g ns in
    subst P (sym c.from_vec.ensures) (told g c.args.turned.now c.args.roots.items others ranks c.requires.range c.requires.turned
    c.requires.roots c.requires.others
    (subst A c.as_slice.ensures.value (c.if-agree.ensures refl)) (subst R c.as_slice-then-agree.ensures.value
    (c.if-rises.ensures refl)))
