-- A list of tokens spells at most one tree of a form that the next token decides.
use Rattle.adl_ast.proofs.Common.{Form, IsLine, List, Spelled, Spells, [], add_comm, ap, decides, deep, deep_exact, deep_spells, refl, subst, sym, true, ℕ, ◌+◌, ◌∙◌, ◌≡◌}
use Rattle.cam_base.proofs.Laws.{ok_is}

pub one_tree : {T V : Type 0} (code : T → ℕ) (line : Form T V V) (opens : List ℕ) → IsLine code line opens
    → {A : Type 0} (f : Form T V A) → decides opens f ≡ true → (x y : A) (ts : List T) → Spelled code line f x ts
    → Spelled code line f y ts → x ≡ y
one_tree {T = T} code line opens is {A = A} f d x y ts s s' =
    let n : ℕ = s.0 + s'.0 in
    let exactly = deep_exact code line opens is n f d in
    let p = exactly.complete x ts [] (deep_spells code line opens is s.0 s'.0 f x ts s.1) refl in
    let q = exactly.complete y ts [] (subst (λ (k : ℕ). Spells code (deep code line k) f y ts) (add_comm s'.0 s.0)
    (deep_spells code line opens is s'.0 s.0 f y ts s'.1)) refl in
    ap (λ (w : A × List T). w.0) (ok_is (x, []) (y, []) (sym p ∙ q))
