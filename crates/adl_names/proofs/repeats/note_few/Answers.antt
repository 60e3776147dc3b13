use Rattle.adl_names.proofs.Common.{◌∙◌}
use Rattle.adl_names.proofs.FewRepeated.{few_more}
use Rattle.adl_names.proofs.repeats.note_few.Goals as goal

pub loop-place-preserved : goal.loop-place-preserved
loop-place-preserved g c =
    few_more g.T.Worded.words c.args.items.now c.loop-place.place c.index-items-place.result c.loop-place.first
    c.note_behind.new.first c.loop-place-test.true c.index-items-place.is c.note_behind.ensures ∙ c.loop-place.invariant
