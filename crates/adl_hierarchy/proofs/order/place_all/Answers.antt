use Rattle.adl_hierarchy.proofs.Common.{arith, length, ◌≤◌}
use Rattle.adl_hierarchy.proofs.Waiting.{end_from_waits}
use Rattle.adl_hierarchy.proofs.order.place_all.Goals as goal

pub loop-index-init : goal.loop-index-init
loop-index-init c = record {
  placing = c.in_ok-settle_all.ensures.placing;
  waits = λ x l. c.in_ok-settle_all.ensures.settles.each 0 x (omega arith) l;
}

pub returns-clause-end : goal.returns-clause-end
returns-clause-end c =
    let all : length c.loop-index.placing.placed.list ≤ c.loop-index.index = rw (← c.list.ensures.list) c.loop-index-test.false in
    end_from_waits c.args.graph.now c.loop-index.placing c.loop-index.index all c.loop-index.invariant.waits
