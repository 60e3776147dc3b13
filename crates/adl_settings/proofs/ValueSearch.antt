-- The search for the value of a setting along a path.
use Rattle.adl_settings.proofs.Common.{Given, Hierarchy, Id, Name, None, Option, Path, Some, ap, arith, at, default_at, drop, given, length, length-take-le, option_and_then, option_map, option_or, option_or-none, set_within, setter_at, setting_of, suc, sym, take, take-take, top_number, value_at, zero, ℕ, ◌-◌, ◌∙◌, ◌≡◌, ◌≤◌}
use Rattle.adl_ast.specs.declared.configuration.Setter.TheVariants as setters

-- ---- a path's names behind those that count

pub setter-take : (h : Hierarchy) (p : Path) (m k end : ℕ) (x : Name) → k ≤ m → end ≤ m
    → setter_at h (take m p) k end x ≡ setter_at h p k end x
setter-take h p m k end x b e =
    λ i. option_and_then (λ n. option_map (λ s. s.setter) (setting_of h n (drop k (take-take end m p e i)) x))
    (at h (top_number h) (take-take k m p b i))

-- what an attribute of the body at the first suc k names of p gives
abbrev pub referred : Hierarchy → Path → ℕ → Name → Option Given
referred h p k y = option_or (set_within h p k (suc k) y) (default_at h (take (suc k) p) y)

pub set-take : (h : Hierarchy) (p : Path) (m k end : ℕ) (x : Name) → k ≤ m → end ≤ m
    → set_within h (take m p) k end x ≡ set_within h p k end x
set-take h p m zero end x b e = ap (given (λ y. None) x) (setter-take h p m 0 end x b e)
set-take h p m (suc k) end x b e =
    let inner = set-take h p m k end x (omega arith) e in
    let refer : referred h (take m p) k ≡ referred h p k = λ i y. option_or (set-take h p m k (suc k) y (omega arith) b i)
    (default_at h (take-take (suc k) m p b i) y) in
    λ i. option_or (inner i) (given (refer i) x (setter-take h p m (suc k) end x b e i))

-- ---- references

less_one : (k : ℕ) → suc k - 1 ≡ k
less_one k = omega arith

-- an attribute of a body above gives its value there
pub value-referred : (h : Hierarchy) (p : Path) (k : ℕ) (y : Name) → suc k ≤ length p
    → value_at h (take (suc k) p) y ≡ referred h p k y
value-referred h p k y l =
    let q = take (suc k) p in
    ap (λ n. option_or (set_within h q (n - 1) n y) (default_at h q y)) (length-take-le (suc k) p l)
    ∙ ap (λ n. option_or (set_within h q n (suc k) y) (default_at h q y)) (less_one k)
    ∙ ap (λ o. option_or o (default_at h q y)) (set-take h p (suc k) k (suc k) y (omega arith) (omega arith))

pub reference_found : (h : Hierarchy) (p : Path) (k end : ℕ) (x : Name) (y : Id) → suc k ≤ length p
    → setter_at h p (suc k) end x ≡ Some (setters.Reference y)
    → set_within h p (suc k) end x ≡ option_or (set_within h p k end x) (value_at h (take (suc k) p) y.name)
reference_found h p k end x y l s =
    ap (λ o. option_or (set_within h p k end x) (given (referred h p k) x o)) s ∙ ap (λ o. option_or (set_within h p k end x) o)
    (sym (value-referred h p k y.name l))

-- a reference that finds nothing counts as no setting
pub reference_absent : (h : Hierarchy) (p : Path) (k end : ℕ) (x : Name) (y : Id) → suc k ≤ length p
    → setter_at h p (suc k) end x ≡ Some (setters.Reference y) → value_at h (take (suc k) p) y.name ≡ None
    → set_within h p (suc k) end x ≡ set_within h p k end x
reference_absent h p k end x y l s n =
    reference_found h p k end x y l s ∙ ap (λ o. option_or (set_within h p k end x) o) n
    ∙ sym (option_or-none (set_within h p k end x))

-- what is set further out stays
pub outer_stays : (h : Hierarchy) (p : Path) (k end : ℕ) (x : Name) (g : Given) → set_within h p k end x ≡ Some g
    → set_within h p (suc k) end x ≡ Some g
outer_stays h p k end x g e = ap (λ o. option_or o (given (referred h p k) x (setter_at h p (suc k) end x))) e

pub default_last : (h : Hierarchy) (p : Path) (x : Name) → set_within h p (length p - 1) (length p) x ≡ None
    → value_at h p x ≡ default_at h p x
default_last h p x e = ap (λ o. option_or o (default_at h p x)) e
