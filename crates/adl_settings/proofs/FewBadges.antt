-- Of fewer than two numbers or ends none stands twice.
use Rattle.std.proofs.lemmas.List.Sums.{count_by-le-length}
use Rattle.adl_meaning.specs.Prelude.{Fault, cons_option, option_map_or, where_true}
use Rattle.adl_settings.proofs.Common.{Found, List, None, Option, Some, [], ap, arith, badges_twice_in, count_by, false, is_repeated, length, nat_eq, nat_tests, refl, sym, ℕ, ◌≡◌, ◌<◌, ◌++◌, ◌∷◌}
use Rattle.adl_settings.specs.BadgeTwice.{own_badge}

pub none_twice : (numbers : List ℕ) (n : ℕ) → length numbers < 2 → false ≡ is_repeated numbers n
none_twice numbers n few = grind (arith, nat_tests, count_by-le-length (λ m. nat_eq n m) numbers)

alone : (o : Option ℕ) (f : Fault) → option_map_or (λ n. where_true (is_repeated (cons_option o []) n) f) o [] ++ [] ≡ []
alone None f = refl
alone (Some n) f = ap (λ b. where_true b f ++ []) (sym (none_twice (n ∷ []) n (omega arith)))

pub few_badges : (ends : List Found) → length ends < 2 → badges_twice_in ends ≡ []
few_badges [] few = refl
few_badges (f ∷ []) few = alone (own_badge f) _
few_badges (f ∷ g ∷ ends) few = absurd (omega (arith, few))
