-- Counts of a kept spec are small: fewer than 2^32 objects, and at most 65,536 slots in each.
use Rattle.std.proofs.Common.{rules}
use Rattle.cap_audit.proofs.Common.{Bool, Cap, Entry, IsKept, List, Object, Spec, [], all_at, and_parts, ap, arith, cap_count, cnode_count, get_or, keeps, keeps_slots, leb, length, list_all, nat_lt, rise, slice_get-get_or, sum_by, take}
use Rattle.cap_audit.proofs.Common.{take_all, true, ℕ, ◌&&◌, ◌*◌, ◌+◌, ◌<◌, ◌^◌, ◌∙◌, ◌∷◌, ◌≡◌, ◌≤◌}
use Rattle.std.proofs.Math.Pow.{pow_mono}
use Rattle.std.proofs.lemmas.List.Sums.{sum_by_more}
use Rattle.cap_model.specs.declared.object.Object.TheVariants as objects

-- numbers that rise and lie below the size are no more than the size
few_rising : (fit : Cap → Bool) (size : ℕ) (x : ℕ × Cap) (xs : List (ℕ × Cap)) → rise (x ∷ xs) ≡ true
    → list_all (λ (slot : ℕ × Cap). nat_lt slot.0 size && fit slot.1) (x ∷ xs) ≡ true → x.0 + length (x ∷ xs) ≤ size
few_rising fit size x [] up all = search (rules, and_parts, nat_lt)
few_rising fit size x (y ∷ ys) up all =
    let rises = and_parts (nat_lt x.0 y.0) (rise (y ∷ ys)) up in
    let parts = and_parts (nat_lt x.0 size && fit x.1) (list_all (λ (slot : ℕ × Cap). nat_lt slot.0 size && fit slot.1)
    (y ∷ ys)) all in
    let rest : y.0 + length (y ∷ ys) ≤ size = few_rising fit size y ys rises.1 parts.1 in
    let less = rises.0 in
    grind arith

few_slots : (fit : Cap → Bool) (size : ℕ) (slots : List (ℕ × Cap)) → keeps_slots fit size slots ≡ true → length slots ≤ size
few_slots fit size [] kept = omega arith
few_slots fit size (x ∷ xs) kept = search (rules, and_parts, nat_lt, few_rising)

pub few_caps : (spec : Spec) (object : Object) → keeps spec object ≡ true → cap_count object ≤ 65536
few_caps spec (objects.CNode bits slots) kept = search (rules, and_parts, nat_lt, leb, pow_mono, few_slots)
few_caps spec _ kept = omega arith

pub few_cnodes : (object : Object) → cnode_count object ≤ 65536
few_cnodes (objects.CNode bits slots) = omega arith
few_cnodes _ = omega arith

-- what a count is after so many objects
pub record Counted (count : Entry → ℕ) (entries : List Entry) (n : ℕ) (total : ℕ) : Type 0 where
  pub is : total ≡ sum_by count (take n entries)
  pub small : total ≤ 65536 * n

module _ (count : Entry → ℕ) (entries : List Entry) where
  pub counted_more : (n total : ℕ) (d : Entry) → n < length entries → count (get_or entries n d) ≤ 65536
      → Counted count entries n total → Counted count entries (n + 1) (total + count (get_or entries n d))
  counted_more n total d less few before = search (rules, sum_by_more)

module _ (count : Entry → ℕ) (entries : List Entry) where
  pub counted_all : (n total : ℕ) → length entries ≤ n → Counted count entries n total → total ≡ sum_by count entries
  counted_all n total le c = c.is ∙ ap (λ (xs : List Entry). sum_by count xs) (take_all n entries le)

pub kept_caps : (spec : Spec) (n : ℕ) (d : Entry) → IsKept spec → n < length spec.entries
    → cap_count (get_or spec.entries n d).object ≤ 65536
kept_caps spec n d kept less = search (rules, few_caps, all_at, slice_get-get_or)
