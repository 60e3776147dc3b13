-- The counts of uses are the lengths of their lists.
use Rattle.cspace_layout.proofs.Common.{Bool, List, Member, SlotUse, System, [], ap, arith, cond, count_by, ends_at, ends_of, false, flat_map, gather, is_lock, leaf_members, length, length_append, lock_uses, refl, suc, true, uses_at, uses_of, ℕ, ◌+◌}
use Rattle.cspace_layout.proofs.Common.{◌∷◌, ◌≡◌}
use Rattle.std.proofs.lemmas.List.Sums.{sum_by-cons}
use Rattle.cspace_layout.specs.declared.plan.SlotUse.TheVariants.{OwnLock}
use Rattle.cspace_layout.proofs.Using.{leaf_laid}

-- ---- leaves

abbrev one : Bool → ℕ
one b = cond b 1 0

length-locks : (use_of : ℕ → SlotUse) (xs : List Member)
    → length (gather (λ m x. cond (is_lock x) (use_of m ∷ []) []) xs) ≡ count_by is_lock xs
length-locks use_of [] = refl
length-locks use_of (x ∷ xs) =
    let rest = gather (λ m (y : Member). cond (is_lock y) (use_of (suc m) ∷ []) []) xs in
    omega (
      arith,
      length_append (cond (is_lock x) (use_of 0 ∷ []) []) rest,
      one_long (is_lock x) (use_of 0),
      length-locks (λ m. use_of (suc m)) xs,
      sum_by-cons (λ (y : Member). one (is_lock y)) x xs,
    )
  where
    one_long : (b : Bool) (u : SlotUse) → length (cond b (u ∷ []) []) ≡ one b
    one_long true u = refl
    one_long false u = refl

pub leaf_counted : (s : System) (leaf : ℕ) → length (flat_map (uses_at s.flat) (ends_at (ends_of s.source s.flat) leaf))
    + count_by is_lock (leaf_members s.source s.flat leaf) ≡ length (uses_of s leaf)
leaf_counted s leaf =
    let ends = flat_map (uses_at s.flat) (ends_at (ends_of s.source s.flat) leaf) in
    let members = leaf_members s.source s.flat leaf in
    omega (
      arith,
      ap (λ (z : List SlotUse). length z) (leaf_laid s leaf),
      length_append ends (gather (λ m x. lock_uses leaf m x) members),
      length-locks (λ m. OwnLock leaf m) members,
    )
