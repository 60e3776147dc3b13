use Rattle.source_images.proofs.Common.{ap, found, missing_by, type_number, type_of, ◌∙◌}
use Rattle.source_images.proofs.Typing.{noted_more, number_is}
use Rattle.source_images.proofs.missing.first_missing.Goals as goal

pub loop-leaf-preserved : goal.loop-leaf-preserved
loop-leaf-preserved c =
    let number = c.number_of-number.ensures ∙ number_is c.args.source.now c.args.flat.now (found c.args.numbers.now)
    (type_of c.args.source.now c.leaf-item.result) c.requires in
    noted_more (λ leaf. missing_by c.args.readings.now leaf.place (type_number c.args.source.now c.args.flat.now leaf))
    c.as_slice-leaf-items.result.now c.loop-leaf.leaf-index c.leaf-item.result
    c.loop-leaf.first c.note_missing.new.first (missing_by c.args.readings.now c.leaf-item.result.place c.number_of-number.result)
    c.loop-leaf-test.true c.leaf-item.is
    c.loop-leaf.invariant (ap (missing_by c.args.readings.now c.leaf-item.result.place) number) c.note_missing.ensures
