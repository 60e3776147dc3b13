use Rattle.source_images.proofs.Common.{ap, ◌∙◌}
use Rattle.source_images.proofs.Answering.{first_answer}
use Rattle.source_images.proofs.read.answer.Goals as goal

pub returns-in_ok-file-in-Some : goal.returns-in_ok-file-in-Some
returns-in_ok-file-in-Some c = (
  first_answer c.args.source.now c.args.flat.now c.args.readings c.as_slice.result.now c.in_ok-missing.missing
      c.in_ok-fault.field-0.fault c.first_of.result c.in-Some.fault
      c.as_slice.ensures (c.in_ok-missing.ensures ∙ c.first_missing.ensures) (ap (λ m. m.fault) c.in_ok-fault.ensures)
      c.first_of.ensures c.in-Some.is,
  c.in_ok-file-in-Some.ensures,
)
