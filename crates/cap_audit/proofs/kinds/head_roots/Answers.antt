use Rattle.cap_audit.proofs.Common.{AreRoots, List, Option, subst, sym, ℕ}
use Rattle.cap_audit.proofs.kinds.head_roots.Goals as goal

pub leave_out-requires-clause-roots : goal.leave_out-requires-clause-roots
leave_out-requires-clause-roots c = subst (λ (xs : List (Option ℕ)). AreRoots c.args.spec.now xs)
    (sym c.as_mut_slice.ensures.value) c.in_ok-roots.ensures
