use Rattle.view_text.proofs.Common.{flat_map, take, ◌++◌, ◌≡◌}
use Rattle.view_text.proofs.texts.add.Given as goal

abbrev pub invariant-loop-part : goal.invariant-loop-part
invariant-loop-part l = l.text ≡ l.fn.text ++ flat_map (λ p. p.now) (take l.part-index l.parts)
