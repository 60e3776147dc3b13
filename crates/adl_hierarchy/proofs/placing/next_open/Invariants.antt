use Rattle.adl_hierarchy.proofs.Common.{has, length, take, true, ℕ, ◌-◌, ◌≡◌}
use Rattle.adl_hierarchy.proofs.placing.next_open.Given as goal

abbrev pub invariant-loop-next : goal.invariant-loop-next
invariant-loop-next l = (c : ℕ) → has (take l.next l.inner) c ≡ true → has l.placed.list c ≡ true

abbrev pub decreases-loop-next : goal.decreases-loop-next
decreases-loop-next l = length l.inner - l.next
