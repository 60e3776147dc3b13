-- An object is found under its own name.
use Rattle.cap_model.proofs.Common.{Entry, IsKept, Spec, and_parts, arith, list_any, names_differ, not-true, or_parts, position_or_len, rules}
use Rattle.std.specs.Prelude.{not, ◌≡◌, ◌<◌, ℕ, zero, suc, Bool, true, false, List, [], ◌∷◌, map, length, Some, slice_get, nat_lt, refl}
use Rattle.std.specs.Str.{bytes_eq}
use Rattle.std.proofs.lemmas.Slice.Eq.{bytes_eq-Decides}
use Rattle.cap_model.specs.Lookup.{place_of}

flip_at : (a b : List ℕ) (r : Bool) → bytes_eq b a ≡ r → bytes_eq a b ≡ false → r ≡ false
flip_at a b false e h = refl
flip_at a b true e h = search (rules, bytes_eq-Decides)

-- an earlier name is no later one
earlier : (name : List ℕ) (es : List Entry) (i : ℕ) (e : Entry)
    → list_any (λ m. bytes_eq m name) (map (λ (x : Entry). x.name) es) ≡ false → slice_get es i ≡ Some e
    → bytes_eq name e.name ≡ false
earlier name [] i e none there = absurd cc
earlier name (x ∷ xs) zero e none there = search (rules, or_parts, flip_at)
earlier name (x ∷ xs) (suc i) e none there =
    earlier name xs i e ((or_parts (bytes_eq x.name name) (list_any (λ m. bytes_eq m name) (map (λ (y : Entry). y.name) xs))
    none).1) there

first_at : (es : List Entry) (i : ℕ) (e : Entry) → names_differ es ≡ true → slice_get es i ≡ Some e
    → position_or_len (λ (x : Entry). bytes_eq x.name e.name) es ≡ i
first_at [] i e apart there = absurd cc
first_at (x ∷ xs) zero e apart there = search (rules, bytes_eq-Decides)
first_at (x ∷ xs) (suc i) e apart there =
    let parts = and_parts (not (list_any (λ m. bytes_eq m x.name) (map (λ (y : Entry). y.name) xs))) (names_differ xs) apart in
    let other : bytes_eq x.name e.name ≡ false = search (rules, earlier, not-true) in
    let rest : position_or_len (λ (y : Entry). bytes_eq y.name e.name) xs ≡ i = first_at xs i e parts.1 there in
    rw other (omega (arith, rest))

below : (es : List Entry) (i : ℕ) (e : Entry) → slice_get es i ≡ Some e → i < length es
below [] i e there = absurd cc
below (x ∷ xs) zero e there = omega arith
below (x ∷ xs) (suc i) e there = let less : i < length xs = below xs i e there in omega arith

pub found : (spec : Spec) (place : ℕ) (entry : Entry) → IsKept spec → slice_get spec.entries place ≡ Some entry
    → place_of spec.entries entry.name ≡ Some place
found spec place entry kept there =
    let first : position_or_len (λ (x : Entry). bytes_eq x.name entry.name) spec.entries ≡ place =
    first_at spec.entries place entry kept.names there in
    let less : nat_lt place (length spec.entries) ≡ true = search (rules, below) in
    rw (first, less) refl
