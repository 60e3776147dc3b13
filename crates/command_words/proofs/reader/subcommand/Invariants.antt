use Rattle.command_words.proofs.Common.{Bor, List, [], app_of, false, leaf, map, take, ℕ, ◌≡◌}
use Rattle.clap.specs.declared.builder.command.Command.TheViews.{out-Command as fields_of}
use Rattle.command_words.proofs.reader.subcommand.Given as goal

abbrev pub invariant-loop-slot : goal.invariant-loop-slot
invariant-loop-slot l =
    (app_of l.command ≡ record { top = leaf l.name (map (λ (s : Bor (List ℕ)). s.now) (take l.slot-index l.slots)); subs = [] })
    × ((fields_of l.command).has_globals ≡ false)
