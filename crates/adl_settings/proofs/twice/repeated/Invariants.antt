use Rattle.adl_settings.proofs.Common.{None, Some, cond, count_by, lookup, nat_eq, nat_le, take, ℕ, ◌≡◌}
use Rattle.adl_settings.proofs.twice.repeated.Given as goal

abbrev pub invariant-loop-number : goal.invariant-loop-number
invariant-loop-number l =
    (n : ℕ) → let so_often = count_by (λ m. nat_eq n m) (take l.number-index l.numbers) in
    lookup (λ m. nat_eq n m) l.twice.entries ≡ cond (nat_le 1 so_often) (Some (nat_le 2 so_often)) None
