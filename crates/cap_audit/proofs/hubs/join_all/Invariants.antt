use Rattle.cap_audit.proofs.Common.{Member, Passes, Some, Widened, slice_get, ℕ, ◌<◌, ◌≡◌}
use Rattle.cap_audit.proofs.hubs.join_all.Given as goal

abbrev pub invariant-loop-other : goal.invariant-loop-other
invariant-loop-other l = record {
  widened : Widened l.spec l.initial.web l.web;
  paths : (k : ℕ) (other : Member) → k < l.other-index → slice_get l.others k ≡ Some other
      → Passes l.side l.web.net l.member.node other.node;
}
