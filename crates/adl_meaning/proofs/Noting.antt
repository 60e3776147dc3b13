-- Noting what each element of a list gives.
use Rattle.std.proofs.Common.{◌≡◌, ◌<◌, ◌+◌, ℕ, List, length, get_or, drop, ◌++◌, Option, sym, ◌∙◌, ap, map}
use Rattle.std.specs.List.{flat_map, enumerate_from}
use Rattle.std.proofs.lemmas.List.Folds.{flat_map-map}
use Rattle.cam_base.specs.declared.place.Fault.{Fault}
use Rattle.cam_base.proofs.Lists.{drop_first}
use Rattle.adl_meaning.specs.Faults.{noted}
use Rattle.adl_meaning.proofs.Least.{noted-append}

-- the step of a loop that notes what each element gives
pub noted_each : {X : Type 0} (f : X → List Fault) (new old : Option Fault) (xs : List X) (i : ℕ) (x : X) → i < length xs
    → x ≡ get_or xs i x → new ≡ noted old (f x)
    → noted new (flat_map f (drop (i + 1) xs)) ≡ noted old (flat_map f (drop i xs))
noted_each f new old xs i x l e n =
    ap (λ o. noted o (flat_map f (drop (i + 1) xs))) n ∙ sym (noted-append old (f x) (flat_map f (drop (i + 1) xs)))
    ∙ ap (λ z. noted old (flat_map f z)) (sym (drop_first xs i x l e))

-- the same, where the list is that of what g gives
pub noted_mapped : {X Y : Type 0} (f : X → List Fault) (g : Y → X) (new old : Option Fault) (ys : List Y) (i : ℕ) (y : Y)
    → i < length ys → y ≡ get_or ys i y → new ≡ noted old (f (g y))
    → noted new (flat_map f (map g (drop (i + 1) ys))) ≡ noted old (flat_map f (map g (drop i ys)))
noted_mapped f g new old ys i y l e n =
    ap (λ z. noted new z) (flat_map-map f g (drop (i + 1) ys)) ∙ noted_each (λ z. f (g z)) new old ys i y l e n
    ∙ ap (λ z. noted old z) (sym (flat_map-map f g (drop i ys)))

-- the same, where each element has its number
pub noted_numbered : {X Y : Type 0} (f : ℕ → X → List Fault) (g : Y → X) (new old : Option Fault) (ys : List Y) (i : ℕ) (y : Y)
    → i < length ys → y ≡ get_or ys i y → new ≡ noted old (f i (g y))
    → noted new (flat_map (λ x. f x.0 x.1) (enumerate_from (i + 1) (map g (drop (i + 1) ys)))) ≡ noted old
    (flat_map (λ x. f x.0 x.1) (enumerate_from i (map g (drop i ys))))
noted_numbered {X} f g new old ys i y l e n =
    let rest = flat_map (λ (x : ℕ × X). f x.0 x.1) (enumerate_from (i + 1) (map g (drop (i + 1) ys))) in
    ap (λ o. noted o rest) n ∙ sym (noted-append old (f i (g y)) rest)
    ∙ ap (λ z. noted old (flat_map (λ (x : ℕ × X). f x.0 x.1) (enumerate_from i (map g z)))) (sym (drop_first ys i y l e))

-- one list, and then another
pub noted_then : (new mid old : Option Fault) (xs ys : List Fault) → mid ≡ noted old xs → new ≡ noted mid ys
    → new ≡ noted old (xs ++ ys)
noted_then new mid old xs ys m n = n ∙ ap (λ o. noted o ys) m ∙ sym (noted-append old xs ys)

-- what is noted list by list is noted as one
pub ruleset noting = (noted-append)
