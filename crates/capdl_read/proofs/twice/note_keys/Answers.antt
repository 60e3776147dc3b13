use Rattle.capdl_read.proofs.Common.{arith, sym, ◌∙◌}
use Rattle.capdl_read.proofs.Repeating.{keys_more}
use Rattle.capdl_read.proofs.NoneTwice.{none_twice}
use Rattle.capdl_read.proofs.twice.note_keys.Goals as goal

pub loop-item-preserved : goal.loop-item-preserved
loop-item-preserved g c =
    keys_more c.args.name.now g.K.Keyed.keyed_as _ _ _ _ c.args.items.now c.loop-item.item-index c.item-item.result (omega arith)
    c.item-item.is (rw c.keyed.ensures at c.in_ok-meet_key.ensures.first) (rw c.keyed.ensures at c.in_ok-meet_key.ensures.met)
    ∙ c.loop-item.invariant

pub returns-then-rise : goal.returns-then-rise
returns-then-rise g c = none_twice c.args.name.now g.K.Keyed.keyed_as c.args.first.now c.args.items.now (sym c.rise.ensures
    ∙ c.if-rise.true)
