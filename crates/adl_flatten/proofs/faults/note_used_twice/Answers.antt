use Rattle.adl_flatten.proofs.Common.{noted, noted_each, used_twice, ◌∙◌, ◌≡◌}
use Rattle.adl_flatten.proofs.faults.note_used_twice.Goals as goal

pub loop-end-preserved : goal.loop-end-preserved
loop-end-preserved c =
    let e = c.end-item.result in
    let n : c.note.new.self ≡ noted c.loop-end.first (used_twice c.args.ends.now e) = cc in
    noted_each (used_twice c.args.ends.now) _ _ c.as_slice-end-items.result.now c.loop-end.end-index e c.loop-end-test.true
    c.end-item.is n ∙ c.loop-end.invariant
