use Rattle.text_commands.proofs.Common.{says_nothing}
use Rattle.text_commands.proofs.lines.write_have.Goals as goal

pub returns-in_default : goal.returns-in_default
returns-in_default g c = rw c.in_default.is says_nothing
