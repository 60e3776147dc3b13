use Rattle.camkes_tool.proofs.Common.{AlikeInCommand, Some, map, sym}
use Rattle.std.specs.Prelude.{string_bytes}
use Rattle.command_words.specs.Words.{read_words}
use Rattle.camkes_tool.proofs.Learns.{same_learned}
use Rattle.camkes_tool.proofs.Telling.{no_memory_fits}
use Rattle.camkes_tool.proofs.decide.decide.Goals as goal

pub returns-in-Err-NoMemory-clause-fits : goal.returns-in-Err-NoMemory-clause-fits
returns-in-Err-NoMemory-clause-fits g c m told =
    no_memory_fits (read_words (map string_bytes c.args.words.now)) m (g.F.Files.faults c.args.files.now)
    (g.F.Files.faults c.args.files.now)

pub returns-in-Ok-clause-learned : goal.returns-in-Ok-clause-learned
returns-in-Ok-clause-learned g c =
    same_learned g.F.Files.told c.args.files.now c.follow.new.files AlikeInCommand (Some c.in-Ok.command)
    (read_words (map string_bytes c.args.words.now))
    (sym c.in-Ok.ensures.read) c.follow.ensures.learned

pub returns-in-Err-Usage-clause-learned : goal.returns-in-Err-Usage-clause-learned
returns-in-Err-Usage-clause-learned g c m n now old alike = old

pub returns-in-Err-NoMemory-clause-learned : goal.returns-in-Err-NoMemory-clause-learned
returns-in-Err-NoMemory-clause-learned g c m n now old alike = old
