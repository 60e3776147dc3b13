-- The flat system of a source within its limits is small.
use Rattle.flat_laws.proofs.Common.{AreNamesSound, Bool, Domain, Hierarchy, List, None, Path, Placed, Some, Source, [], arith, cond_both, connections, count_by-le-length, domain_of, domains, enumerate_from, false, filter, first_flat_fault}
use Rattle.flat_laws.proofs.Common.{first_join_fault, first_size_fault, firsts_after, flat_connection, flat_domain, flat_of, hierarchy_of, in_limits, is_hardware, is_inside, leaf_of, leaves, length, length-filter, length-map, map, not, same_path}
use Rattle.flat_laws.proofs.Common.{slice_get, subst, suc, zero, ℕ, ◌||◌, ◌∷◌, ◌≡◌, ◌≤◌}
use Rattle.std.proofs.lemmas.List.FromFn.{length-enumerate_from}
use Rattle.flat_laws.specs.Small.{IsSmall}
use Rattle.flat_laws.proofs.FewEnds.{no_first}

firsts_le : {X : Type 0} (same : X → X → Bool) (met : X → Bool) (xs : List X) → length (firsts_after same met xs) ≤ length xs
firsts_le same met [] = omega arith
firsts_le same met (x ∷ xs) =
    cond_both (met x) (firsts_after same met xs) (x ∷ firsts_after same (λ y. met y || same y x) xs)
    (λ z. length z ≤ length (x ∷ xs)) (λ e. let l = firsts_le same met xs in omega (arith, l))
    (λ e. let l = firsts_le same (λ y. met y || same y x) xs in omega (arith, l))

filter_le : {X : Type 0} (test : X → Bool) (xs : List X) → length (filter test xs) ≤ length xs
filter_le test xs = omega (arith, length-filter test xs, count_by-le-length test xs)

module _ (h : Hierarchy) where
  few_domains : length (domains h) ≤ length (leaves h)
  few_domains =
      let soft = filter (λ (x : Placed). not (is_hardware h x.part)) (leaves h) in
      omega (
        arith,
        firsts_le same_path (λ y. false) (map (λ (x : Placed). domain_of h x.path) soft),
        length-map soft (λ (x : Placed). domain_of h x.path),
        filter_le (λ (x : Placed). not (is_hardware h x.part)) (leaves h),
      )

  few_inside : (d : Path) → length (flat_domain h d).leaves ≤ length (leaves h)
  few_inside d =
      let all : List (ℕ × Placed) = enumerate_from 0 (leaves h) in
      omega (
        arith,
        length-map (filter (λ (x : ℕ × Placed). is_inside h d x.1) all) (λ (x : ℕ × Placed). x.0),
        filter_le (λ (x : ℕ × Placed). is_inside h d x.1) all,
        length-enumerate_from 0 (leaves h),
      )

  from_domains : (ds : List Path) (n : ℕ) (domain : Domain) → slice_get (map (flat_domain h) ds) n ≡ Some domain
      → (d : Path) × (flat_domain h d ≡ domain)
  from_domains [] n domain e = cc
  from_domains (d ∷ ds) zero domain e = (d, cc)
  from_domains (d ∷ ds) (suc n) domain e = from_domains ds n domain e

pub small : (s : Source) → AreNamesSound s → first_size_fault s ≡ None → IsSmall (flat_of s)
small s sound none =
    let h = hierarchy_of s in
    let w = in_limits s sound none in
    record {
      leaves = omega (arith, w.leaves_are, length-map (leaves h) (leaf_of h));
      domains = omega (arith, w.leaves_are, few_domains h, length-map (domains h) (flat_domain h));
      inside = λ d domain e. let p = from_domains h (domains h) d domain e in let l = few_inside h p.0 in
          subst (λ (z : Domain). length z.leaves ≤ 1024) p.1 (omega (arith, w.leaves_are, l));
      connections = omega (arith, w.connections_are, length-map (connections h) (flat_connection h));
    }

pub flat_small : (s : Source) → AreNamesSound s → first_flat_fault s ≡ None → IsSmall (flat_of s)
flat_small s sound none = small s sound (no_first (first_size_fault s) (first_join_fault s) none)
