use Rattle.cam_base.proofs.Common.{flat_map, take, ◌++◌, ◌∷◌, ◌≡◌}
use Rattle.cam_base.proofs.path.push_dotted.Given as goal

abbrev pub invariant-loop-name : goal.invariant-loop-name
invariant-loop-name l = l.bytes ≡ l.fn.bytes ++ flat_map (λ m. 46 ∷ m) (take l.name-index l.names)
