-- Components without compositions hold nothing.
use Rattle.adl_names.proofs.Common.{Component, List, Located, Name, Option, [], ap, enumerate_from, flat_map, instances_in, recursive_in, recursive_instance, refl, slice_get, trees, true, ℕ, ◌+◌, ◌++◌, ◌∙◌, ◌∷◌, ◌≡◌}
use Rattle.adl_meaning.specs.Prelude.{Composition, composition_of, compositions, list_all}
use Rattle.std.proofs.lemmas.Bool.{and_parts}
use Rattle.std.specs.Prelude.{is_none}

nothing_in : (ks : List Composition) → is_none (slice_get ks 0) ≡ true → flat_map instances_in ks ≡ []
nothing_in [] e = refl
nothing_in (k ∷ ks) e = cc

pub none_recursive : (numbers : Name → Option ℕ) (g : List (List ℕ)) (xs : List (Located Component)) (i : ℕ)
    → list_all (λ x. is_none (composition_of x.item.now)) xs ≡ true
    → flat_map (λ x. recursive_in numbers g x.0 x.1) (enumerate_from i (trees xs)) ≡ []
none_recursive numbers g [] i e = refl
none_recursive numbers g (x ∷ xs) i e =
    let both = and_parts (is_none (composition_of x.item.now)) (list_all (λ (y : Located Component). is_none
    (composition_of y.item.now)) xs) e in
    ap (λ is. flat_map (recursive_instance numbers g i) is
    ++ flat_map (λ (y : ℕ × Component). recursive_in numbers g y.0 y.1) (enumerate_from (i + 1) (trees xs)))
    (nothing_in (compositions x.item.now) both.0) ∙ none_recursive numbers g xs (i + 1) both.1
