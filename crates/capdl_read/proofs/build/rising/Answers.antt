use Rattle.capdl_read.proofs.Common.{arith, sym, ◌∙◌}
use Rattle.capdl_read.proofs.Behind.{put_behind}
use Rattle.capdl_read.proofs.build.rising.Goals as goal

pub loop-slot-preserved : goal.loop-slot-preserved
loop-slot-preserved c =
    let p =
    put_behind c.push.new.self c.loop-slot.rising c.loop-slot.last _ c.in-Number.n c.args.slots.now c.loop-slot.slot-index
    (omega arith) c.in-Number.is (sym c.is_above.ensures ∙ c.if-is_above.true)
    c.loop-slot.invariant.behind c.in_ok-push.ensures.ok in
    record { numbered = p.0 ∙ c.loop-slot.invariant.numbered; behind = p.1 }
