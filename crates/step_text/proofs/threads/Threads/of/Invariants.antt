use Rattle.step_text.proofs.Common.{List, drop, found_in, option_or, position_from, ℕ, ◌≡◌}
use Rattle.step_text.proofs.Adding.{is_named}
use Rattle.step_text.proofs.threads.Threads.of.Given as goal

abbrev pub invariant-loop-place : goal.invariant-loop-place
invariant-loop-place l = (name : List ℕ)
    → option_or (found_in l.threads name) (position_from (is_named name) l.place (drop l.place l.entries)) ≡ position_from
    (is_named name) 0 l.entries
