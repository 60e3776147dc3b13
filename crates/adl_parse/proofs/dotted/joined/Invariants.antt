use Rattle.adl_parse.proofs.Common.{◌∷◌, ◌≡◌}
use Rattle.adl_parse.proofs.dotted.joined.Given as goal

abbrev pub invariant-loop-id : goal.invariant-loop-id
invariant-loop-id l = l.ids ≡ l.fn.first ∷ l.fn.second ∷ l.yielded
