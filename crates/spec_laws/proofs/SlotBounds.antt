-- How many slots there are, where no limit on slots is passed.
use Rattle.spec_laws.proofs.Common.{Assembly, Flat, ItemAt, List, None, SlotPlan, Some, Source, [], ap, arith, assemblies, counts, first_slot_fault, greatest, le-max_left, le-max_right, least-empty, length, map}
use Rattle.spec_laws.proofs.Common.{none_left, none_right, not_passed, rules, slice_get, slots_of, suc, sum, zero, ℕ, ◌∙◌, ◌∷◌, ◌≡◌, ◌≤◌}

-- a domain has slots for at most so many uses, and all together for so many
pub record AreFewSlots (s : Source) (flat : Flat) : Type 0 where
  pub each : greatest (counts (slots_of s flat)) ≤ 4095
  pub all : sum (counts (slots_of s flat)) ≤ 65536

pub few_slots : (s : Source) (flat : Flat) (a : ItemAt × Assembly) → assemblies s ≡ a ∷ [] → first_slot_fault s flat ≡ None
    → AreFewSlots s flat
few_slots s flat a one none = search (rules, least-empty, none_left, not_passed, none_right)

below_greatest : (ns : List ℕ) (d n : ℕ) → slice_get ns d ≡ Some n → n ≤ greatest ns
below_greatest [] d n e = cc
below_greatest (m ∷ ns) zero n e = let same : m ≡ n = cc in let l = le-max_left m (greatest ns) in omega (arith, same, l)
below_greatest (m ∷ ns) (suc d) n e = let l = le-max_right m (greatest ns) in let h = below_greatest ns d n e in
    omega (arith, l, h)

count_at : (plans : List SlotPlan) (d : ℕ) (plan : SlotPlan) → slice_get plans d ≡ Some plan
    → slice_get (map (λ p. length p.uses) plans) d ≡ Some (length plan.uses)
count_at [] d plan e = cc
count_at (p ∷ plans) zero plan e = let same : p ≡ plan = cc in ap (λ (z : SlotPlan). Some (length z.uses)) same
count_at (p ∷ plans) (suc d) plan e = count_at plans d plan e

pub few_uses : (s : Source) (flat : Flat) → AreFewSlots s flat → (d : ℕ) (plan : SlotPlan)
    → slice_get (slots_of s flat).domains d ≡ Some plan → length plan.uses ≤ 4095
few_uses s flat few d plan e =
    let l = below_greatest (counts (slots_of s flat)) d (length plan.uses) (count_at (slots_of s flat).domains d plan e) in
    omega (arith, l, few.each)
