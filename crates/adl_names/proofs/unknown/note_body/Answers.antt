use Rattle.adl_names.proofs.Common.{noted-append}
use Rattle.adl_names.proofs.unknown.note_body.Goals as goal

pub returns-in-Some : goal.returns-in-Some
returns-in-Some c =
    rw (
      c.note_configuration.ensures,
      c.note_composition.ensures,
      c.get-holding.ensures,
      c.in-Assembly.is,
      c.in-Some.is,
      noted-append,
    )
