use Rattle.explain.proofs.Common.{flat_map, take, ◌++◌, ◌≡◌}
use Rattle.explain.proofs.parts.push_all.Given as goal

abbrev pub invariant-loop-part : goal.invariant-loop-part
invariant-loop-part l = l.bytes ≡ l.fn.bytes ++ flat_map (λ p. p.now) (take l.part-index l.parts)
