-- Texts that are read as names with dots
use Rattle.arch_policy.proofs.Common.{IfSome, List, None, Option, Some, [], ap, arith, drop, false, flat_map, get_or, length, pointwise, rules, sym, take, take_all, true, ℕ, ◌++◌, ◌+◌, ◌-◌, ◌<◌, ◌∙◌, ◌∷◌, ◌≡◌, ◌≤◌}
use Rattle.std.proofs.lemmas.Bool.Decides.{Decides-eqb}
use Rattle.std.proofs.lemmas.Slice.Eq.{strip_prefix_is}
use Rattle.std.specs.Borrow.{Bor}
use Rattle.std.specs.Option.{MatchOption}
use Rattle.std.specs.Prelude.{nat_eq}
use Rattle.cam_base.proofs.Lists.{drop_first}

pub in_front : (s p : List ℕ) (r : Option (Bor (List ℕ)))
    → MatchOption r (pointwise nat_eq (take (length p) s) p ≡ false) (λ x. (pointwise nat_eq (take (length p) s) p ≡ true)
    × (x.now ≡ drop (length p) s) × (length x.now + length p ≡ length s))
    → IfSome r (λ x. s ≡ p ++ x.now)
in_front s p None m = tt
in_front s p (Some x) m = strip_prefix_is Decides-eqb s p (Some x) m

first_then : (xs : List ℕ) → 1 ≤ length xs → xs ≡ get_or xs 0 0 ∷ take (length xs - 1) (drop 1 xs)
first_then [] l = absurd (omega (arith, l))
first_then (x ∷ xs) l = ap (λ ys. x ∷ ys) (sym (take_all (length (x ∷ xs) - 1) xs (omega arith)))

-- a dot and a name are read
pub dotted_turn : (names : List (List ℕ)) (i : ℕ) (name left rest : List ℕ) → i < length names → name ≡ get_or names i name
    → 1 ≤ length left → get_or left 0 0 ≡ 46 → take (length left - 1) (drop 1 left) ≡ name ++ rest
    → rest ≡ flat_map (λ m. 46 ∷ m) (drop (i + 1) names) → left ≡ flat_map (λ m. 46 ∷ m) (drop i names)
dotted_turn names i name left rest l is long dot front more = search (rules, first_then, drop_first)
