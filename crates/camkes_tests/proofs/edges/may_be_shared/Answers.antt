use Rattle.std.proofs.Common.{◌≡◌, ◌<◌, ◌≤◌, ◌+◌, ◌-◌, ℕ, List, length, slice_index_or, arith, ◌⊎◌, inl, inr, refl}
use Rattle.std.proofs.Math.Nat.{eq-or-lt_of_le}
use Rattle.std.proofs.lemmas.List.{get_or_default}
use Rattle.cap_model.specs.Shared.{PairBefore}
use Rattle.authorities.specs.declared.authority.Authority.{Authority}
use Rattle.camkes_tests.proofs.edges.may_be_shared.Goals as goal

trans : (p q r : Authority × ℕ) → PairBefore p q → PairBefore q r → PairBefore p r
trans p q r a b = record {
  by_authority = omega (arith, a.by_authority, b.by_authority);
  by_label = λ e. omega (
    arith,
    a.by_label (omega (arith, a.by_authority, b.by_authority)),
    b.by_label (omega (arith, a.by_authority, b.by_authority)),
  );
}

abbrev Rise : List (Authority × ℕ) → ℕ → Type 0
Rise pairs n = (a b : ℕ) (d : Authority × ℕ) → a < b → b < n → PairBefore (slice_index_or pairs a d) (slice_index_or pairs b d)

module _ (pairs : List (Authority × ℕ)) (i : ℕ) (some : 1 ≤ i) (inside : i < length pairs) (e f : Authority × ℕ) where
  one_more : PairBefore (slice_index_or pairs (i - 1) e) (slice_index_or pairs i f) → Rise pairs i → Rise pairs (i + 1)
  one_more step rise a b d below within = by_last (eq-or-lt_of_le (omega arith))
    where
      last : PairBefore (slice_index_or pairs (i - 1) d) (slice_index_or pairs i d)
      last = rw (get_or_default pairs (i - 1) d e (omega arith), get_or_default pairs i d f inside) step

      by_first : (a ≡ i - 1) ⊎ (a < i - 1) → PairBefore (slice_index_or pairs a d) (slice_index_or pairs i d)
      by_first (inl same) = rw same last
      by_first (inr less) = trans _ _ _ (rise a (i - 1) d less (omega arith)) last

      by_last : (b ≡ i) ⊎ (b < i) → PairBefore (slice_index_or pairs a d) (slice_index_or pairs b d)
      by_last (inl same) = rw same (by_first (eq-or-lt_of_le (omega arith)))
      by_last (inr less) = rise a b d below less

pub loop-i-preserved : goal.loop-i-preserved
loop-i-preserved c = one_more c.args.pairs.now c.loop-i.i c.loop-i.auto.i c.loop-i-test.true _ _ (c.if-not-is_before.ensures refl)
    c.loop-i.invariant

pub returns-clause-rise : goal.returns-clause-rise
returns-clause-rise c _ i j d below within = c.loop-i.invariant i j d below (omega (arith, c.loop-i-test.false))
