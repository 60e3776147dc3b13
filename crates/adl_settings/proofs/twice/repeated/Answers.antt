use Rattle.adl_settings.proofs.Common.{arith, count_by_more_no, count_by_more_yes, get_or, nat_eq, nat_tests, subst, sym, take_all, ◌≡◌}
use Rattle.adl_settings.proofs.FewBadges.{none_twice}
use Rattle.adl_settings.specs.Repeated.{is_marked, is_repeated}
use Rattle.adl_settings.proofs.twice.repeated.Goals as goal

pub loop-number-preserved : goal.loop-number-preserved
loop-number-preserved c = λ n.
    let xs = c.args.numbers.now in
    let i = c.loop-number.number-index in
    let more = count_by_more_yes (λ m. nat_eq n m) xs i 0 c.loop-number-test.true in
    let same = count_by_more_no (λ m. nat_eq n m) xs i 0 c.loop-number-test.true in
    grind (
      arith,
      nat_tests,
      c.loop-number.invariant n,
      c.loop-number.invariant (get_or xs i 0),
      c.contains_key-is_met.ensures,
      c.in_ok-insert.ensures.updates.0 n,
      more,
      same,
    )

pub returns : goal.returns
unfolding is_marked
returns c = λ n. grind (
  arith,
  nat_tests,
  c.loop-number.invariant n,
  take_all c.loop-number.number-index c.args.numbers.now
      c.loop-number-test.false,
)

pub returns-then-numbers-lt2 : goal.returns-then-numbers-lt2
unfolding is_marked
returns-then-numbers-lt2 c = λ n. subst (λ z. is_marked z n ≡ is_repeated c.args.numbers.now n) (sym c.new.ensures.empty)
    (none_twice c.args.numbers.now n c.if-numbers-lt2.true)
