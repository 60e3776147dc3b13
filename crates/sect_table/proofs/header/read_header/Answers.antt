use Rattle.sect_table.proofs.Common.{sym}
use Rattle.sect_table.proofs.FewFields.{no_header}
use Rattle.sect_table.proofs.header.read_header.Goals as goal

pub returns-in_default : goal.returns-in_default
returns-in_default c = sym (no_header c.args.fields.now c.in_default.len_below)
