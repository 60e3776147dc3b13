use Rattle.adl_types.proofs.Common.{faults_at, led_faults, noted, ◌∙◌}
use Rattle.adl_meaning.proofs.Noting.{noted_each}
use Rattle.adl_types.proofs.faults.note_ends.Goals as goal

pub loop-end-preserved : goal.loop-end-preserved
loop-end-preserved c =
    let model = c.if-ends-lt1.model in
    noted_each (led_faults c.args.program.now c.args.connector model) c.note_end.new.first c.loop-end.first c.args.ends.now
    c.loop-end.end-index c.end-item.result c.loop-end-test.true c.end-item.is
    (c.note_end.ensures
    ∙ (λ i. noted c.loop-end.first (faults_at c.args.connector model (c.leaf-leaf.ensures i) (c.end.view_is i).end)))
    ∙ c.loop-end.invariant
