use Rattle.command_words.proofs.Common.{IfOk-weaker}
use Rattle.command_words.proofs.Building.{command_added}
use Rattle.command_words.proofs.reader.with.Goals as goal

pub returns : goal.returns
returns c = IfOk-weaker c.subcommand-2.result _ _ (λ r h. command_added _ _ r _ h c.in_ok-command.ensures.local
    c.in_ok-command.ensures.app) c.subcommand-2.ensures
