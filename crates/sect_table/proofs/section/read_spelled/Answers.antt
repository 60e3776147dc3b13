use Rattle.sect_table.proofs.Common.{arith, sym}
use Rattle.sect_table.proofs.FewFields.{no_section}
use Rattle.sect_table.proofs.section.read_spelled.Goals.{in_default-via-then-fields-lt5, in_default-via-else-fields-lt5+else-fields-lt6}
use Rattle.sect_table.proofs.section.read_spelled.Goals as goal

pub returns-in_default : goal.returns-in_default
returns-in_default c = sym (no_section c.args.fields.now (λ five. elim c.in_default.branch [
  | in_default-via-then-fields-lt5 w ↦ grind arith
  | in_default-via-else-fields-lt5+else-fields-lt6 w ↦ grind arith
]))
