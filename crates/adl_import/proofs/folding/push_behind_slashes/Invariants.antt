use Rattle.adl_import.proofs.Common.{flat_map, take, ◌++◌, ◌∷◌, ◌≡◌}
use Rattle.adl_import.proofs.folding.push_behind_slashes.Given as goal

abbrev pub invariant-loop-part : goal.invariant-loop-part
invariant-loop-part l = l.text.items ≡ l.fn.text.items ++ flat_map (λ part. 47 ∷ part.now) (take l.part-index l.parts)
