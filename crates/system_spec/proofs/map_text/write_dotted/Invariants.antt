use Rattle.system_spec.proofs.Common.{List, Says, flat_map, take, ℕ, ◌∷◌}
use Rattle.system_spec.proofs.map_text.write_dotted.Given as goal

abbrev pub invariant-loop-name : goal.invariant-loop-name
invariant-loop-name g l = Says l.fn.to (flat_map (λ (name : List ℕ). 46 ∷ name) (take l.name-index l.names)) l.to
