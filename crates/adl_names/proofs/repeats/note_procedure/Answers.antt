use Rattle.adl_names.proofs.Common.{◌∙◌}
use Rattle.adl_meaning.proofs.Noting.{noted_each}
use Rattle.adl_names.proofs.FewRepeated.{procedure_noted}
use Rattle.adl_names.specs.Tables.{repeated_in}
use Rattle.adl_names.proofs.repeats.note_procedure.Goals as goal

pub loop-member-init : goal.loop-member-init
loop-member-init c = procedure_noted c.args.procedure.now c.as_slice-members.result.now c.args.first.now c.note_repeats.new.first
    c.as_slice-members.ensures c.in_ok-note_repeats.ensures

pub loop-member-preserved : goal.loop-member-preserved
loop-member-preserved c = noted_each repeated_in c.note_params.new.first c.loop-member.first c.as_slice-members.result.now
    c.loop-member.member-index c.member-item.result c.loop-member-test.true c.member-item.is c.in_ok-note_params.ensures
    ∙ c.loop-member.invariant
