use Rattle.std.proofs.Common.{◌≡◌, ◌<◌, ℕ, slice_index_or}
use Rattle.cap_model.specs.Shared.{PairBefore}
use Rattle.authorities.specs.declared.authority.Authority.{Authority}
use Rattle.camkes_tests.proofs.edges.may_be_shared.Given as goal

abbrev pub invariant-loop-i : goal.invariant-loop-i
invariant-loop-i l = (a b : ℕ) (d : Authority × ℕ) → a < b → b < l.i
    → PairBefore (slice_index_or l.pairs a d) (slice_index_or l.pairs b d)
