-- The leaves of a domain: each once, and one at least.
use Rattle.spec_laws.proofs.Common.{Bool, Domain, IsIn, List, Some, Source, [], arith, domains, enumerate_from, filter, flat_domain, flat_of, from_get_map, hierarchy_of, in_get, leaves, length, map, place_in}
use Rattle.spec_laws.proofs.Common.{rules, slice_get, subst, ℕ, ◌+◌, ◌<◌, ◌∷◌, ◌≡◌, ◌≤◌}
use Rattle.adl_hierarchy.proofs.DomainNames.{domains_are, leaves_of_domain}

-- the numbers of the elements that pass, where the first has this one
abbrev numbers : {X : Type 0} → (ℕ × X → Bool) → ℕ → List X → List ℕ
numbers p a xs = map (λ x. x.0) (filter p (enumerate_from a xs))

no_less : {X : Type 0} (p : ℕ × X → Bool) (a : ℕ) (xs : List X) (i n : ℕ) → slice_get (numbers p a xs) i ≡ Some n → a ≤ n
no_less p a [] i n e = cc
no_less {X} p a (x ∷ xs) i n e = grind (arith, no_less p (a + 1) xs)

one_place : {X : Type 0} (p : ℕ × X → Bool) (a : ℕ) (xs : List X) (i j n : ℕ) → slice_get (numbers p a xs) i ≡ Some n
    → slice_get (numbers p a xs) j ≡ Some n → i ≡ j
one_place p a [] i j n e f = cc
one_place {X} p a (x ∷ xs) i j n e f = grind (arith, no_less p (a + 1) xs, one_place p (a + 1) xs)

some_in : {X : Type 0} (xs : List X) (x : X) → IsIn x xs → 0 < length xs
some_in [] x i = absurd i
some_in (y ∷ xs) x i = omega arith

pub leaves_once : (s : Source) (d i j leaf : ℕ) (x : Domain) → slice_get (flat_of s).domains d ≡ Some x
    → slice_get x.leaves i ≡ Some leaf → slice_get x.leaves j ≡ Some leaf → i ≡ j
leaves_once s d i j leaf x at e f = search (rules, from_get_map, one_place)

pub leaves_some : (s : Source) (d : ℕ) (x : Domain) → slice_get (flat_of s).domains d ≡ Some x → 0 < length x.leaves
leaves_some s d x at =
    let h = hierarchy_of s in let q = from_get_map (flat_domain h) (domains h) d x at in
    let y = (domains_are h q.0).0 (in_get (domains h) d q.0 q.1) in let n = place_in (leaves h) y.0 y.1 in
    let i = (leaves_of_domain h q.0 n.0).1 (y.0, n.1, y.2, y.3) in
    subst (λ (z : Domain). 0 < length z.leaves) q.2 (some_in (flat_domain h q.0).leaves n.0 i)
