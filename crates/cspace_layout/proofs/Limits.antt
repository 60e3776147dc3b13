-- Of two limits that stand at the keyword of the assembly the first that is passed is told.
use Rattle.cspace_layout.proofs.Common.{Bool, ItemAt, List, None, Option, Place, Some, Source, System, [], ap, arith, capped, cond, counts, domain_uses, drop, drop_more, false, fault_at, first_slot_fault, flat_map, get_or, greatest, length}
use Rattle.cspace_layout.proofs.Common.{limit_fault, map, max, nat_lt, option_and_then, option_map, place_in, plan_of, refl, slice_get, sum, sym, true, ℕ, ◌++◌, ◌+◌, ◌-◌, ◌<◌, ◌^◌, ◌∙◌, ◌∷◌, ◌≡◌, ◌≤◌}
use Rattle.std.proofs.lemmas.List.{at_drop_all}
use Rattle.std.specs.Prelude.{codes}
use Rattle.std.proofs.lemmas.Bool.{le-ltb, lt-ltb}
use Rattle.cam_base.specs.Codes.{number_of}
use Rattle.cam_base.specs.declared.code.Code.TheVariants as code
use Rattle.cam_base.specs.declared.place.Fault.{Fault}
use Rattle.adl_ast.specs.declared.composition.Assembly.{Assembly}
use Rattle.adl_meaning.specs.Faults.{least}
use Rattle.adl_meaning.specs.Items.{assemblies}
use Rattle.adl_meaning.specs.SizeFaults.{limit_passed}
use Rattle.adl_meaning.specs.declared.flat.Domain.{Domain}
use Rattle.adl_meaning.proofs.Least.{lex_self}

module _ (a b : List ℕ) (k l : ℕ) (source : Source) (n m : ℕ) (one : length (assemblies source) ≡ 1) where
  abbrev passed : ItemAt × Assembly → List Fault
  passed x = limit_passed x a k n ++ limit_passed x b l m

  abbrev name_by : Bool → Bool → Option (List ℕ)
  name_by x y = cond x (Some a) (cond y (Some b) None)

  first_told : (p : Place) (x y : Bool) → least ((cond x (fault_at p a ∷ []) [] ++ cond y (fault_at p b ∷ []) []) ++ [])
      ≡ option_and_then (λ name. Some (fault_at p name)) (name_by x y)
  first_told p true true = ap (λ t. cond t (Some (fault_at p b)) (Some (fault_at p a)))
      (lex_self p.file p.first (number_of code.Limit))
  first_told p true false = refl
  first_told p false true = refl
  first_told p false false = refl

  at_one : (xs : List (ItemAt × Assembly)) → length xs ≡ 1 → least (flat_map passed xs)
      ≡ option_and_then (λ name. option_map (λ p. fault_at p name) (place_in (slice_get xs 0)))
      (name_by (nat_lt k n) (nat_lt l m))
  at_one [] e = absurd (omega arith)
  at_one (x ∷ []) e = first_told x.1.place (nat_lt k n) (nat_lt l m)
  at_one (x ∷ y ∷ xs) e = absurd (omega arith)

  told : (x y : Bool) → nat_lt k n ≡ x → nat_lt l m ≡ y
      → option_and_then (limit_fault source) (name_by x y) ≡ least (flat_map passed (assemblies source))
  told x y e f =
      sym (at_one (assemblies source) one ∙ ap (λ z. option_and_then (limit_fault source) (name_by z (nat_lt l m))) e
      ∙ ap (λ z. option_and_then (limit_fault source) (name_by x z)) f)

  pub first_passed : k < n → limit_fault source a ≡ least (flat_map passed (assemblies source))
  first_passed over = told true (nat_lt l m) (lt-ltb k n over) refl

  pub second_passed : n ≤ k → l < m → limit_fault source b ≡ least (flat_map passed (assemblies source))
  second_passed within over = told false true (le-ltb k n within) (lt-ltb l m over)

  pub none_passed : n ≤ k → m ≤ l → None ≡ least (flat_map passed (assemblies source))
  none_passed within none = told false false (le-ltb k n within) (le-ltb l m none)

-- the number of uses of each of these domains
abbrev pub use_counts : System → List Domain → List ℕ
use_counts s ds = counts (record { domains = map (λ d. plan_of (domain_uses s.source s.flat d.leaves)) ds })

-- those from a domain on
pub counts_turn : (s : System) (ds : List Domain) (i : ℕ) (d : Domain) → i < length ds → d ≡ get_or ds i d
    → use_counts s (drop i ds) ≡ length (domain_uses s.source s.flat d.leaves) ∷ use_counts s (drop (i + 1) ds)
counts_turn s ds i d l is = ap (use_counts s) (drop_more ds i d l ∙ ap (λ z. z ∷ drop (i + 1) ds) (sym is))

module _ (s : System) (one : length (assemblies s.source) ≡ 1) (ds : List Domain) (same : ds ≡ s.flat.domains) (i all : ℕ) where
  abbrev ns : List ℕ
  ns = use_counts s s.flat.domains

  abbrev left : List ℕ
  left = use_counts s (drop i s.flat.domains)

  module _ (low : max 4095 (greatest left) ≡ max 4095 (greatest ns)) where
    pub slots_over : (d : Domain) (count : ℕ) (leaves : List ℕ) → i < length ds → d ≡ get_or ds i d → leaves ≡ d.leaves
        → count ≡ capped (length (domain_uses s.source s.flat leaves)) → 4095 < count
        → limit_fault s.source (codes "slots") ≡ first_slot_fault s.source s.flat
    slots_over d count leaves l is read counted over =
        let here = ap (λ z. greatest (use_counts s (drop i z))) same in
        let first = ap greatest (counts_turn s ds i d l is) in
        let uses = ap (λ z. length (domain_uses s.source s.flat z)) read in
        first_passed (codes "slots") (codes "all slots") 4095 65536 s.source (greatest ns) (sum ns) one
        (omega (arith, counted, over, low, here, first, uses))

    module _ (behind : length ds ≤ i) (rest : capped (all + sum left) ≡ capped (sum ns)) where
      within : length s.flat.domains ≤ i
      within = omega (arith, behind, ap (λ (z : List Domain). length z) same)

      none : greatest ns ≤ 4095
      none = omega (arith, low, at_drop_all (λ z. greatest (use_counts s z)) s.flat.domains i within)

      nil : sum left ≡ 0
      nil = at_drop_all (λ z. sum (use_counts s z)) s.flat.domains i within

      pub all_over : all ≤ 2 ^ 64 - 1 → 65536 < all → limit_fault s.source (codes "all slots") ≡ first_slot_fault s.source s.flat
      all_over fits over = second_passed (codes "slots") (codes "all slots") 4095 65536 s.source (greatest ns) (sum ns) one none
          (omega (arith, fits, over, rest, nil))

      pub none_over : all ≤ 65536 → None ≡ first_slot_fault s.source s.flat
      none_over few = none_passed (codes "slots") (codes "all slots") 4095 65536 s.source (greatest ns) (sum ns) one none
          (omega (arith, few, rest, nil))
