use Rattle.system_spec.proofs.Common.{LockOf, SlotUse, [], gather, place, take, told, use_cap, ◌+◌, ◌∷◌, ◌≡◌}
use Rattle.system_spec.proofs.caps.caps_of.Given as goal

abbrev pub invariant-loop-n : goal.invariant-loop-n
invariant-loop-n l = record {
  so_far : l.caps ≡ gather (λ n (u : SlotUse). (n + 1, use_cap (told l.tables) l.domain n u) ∷ []) (take l.n l.uses);
  lock : l.lock ≡ place (told l.tables) (LockOf l.domain l.n);
}
