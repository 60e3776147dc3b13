use Rattle.adl_flatten.proofs.Common.{add_part, body, fold, own_total, take, wires_of, ◌≡◌}
use Rattle.adl_flatten.proofs.limits.body_totals.Given as goal

abbrev pub invariant-loop-part : goal.invariant-loop-part
invariant-loop-part l = l.totals ≡ fold (add_part l.program l.all) (own_total (wires_of (body l.program l.number)))
    (take l.part-index l.part-items)
