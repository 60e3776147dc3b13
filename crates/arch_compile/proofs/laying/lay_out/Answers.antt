use Rattle.arch_compile.proofs.Common.{sound_within, sym, ◌∙◌}
use Rattle.arch_compile.proofs.laying.lay_out.Goals as goal

pub first_space_fault-requires : goal.first_space_fault-requires
first_space_fault-requires c = c.requires.imaged.numbered

pub new-requires : goal.new-requires
new-requires c = let m = c.args.meaning.now in sound_within m.source m.flat m.settled c.requires.sound

pub lay_wired-requires-clause-sound : goal.lay_wired-requires-clause-sound
lay_wired-requires-clause-sound c = rw c.in_ok-wiring.ensures c.requires.sound

pub lay_wired-requires-clause-imaged : goal.lay_wired-requires-clause-imaged
lay_wired-requires-clause-imaged c = rw c.in_ok-wiring.ensures c.requires.imaged

pub lay_wired-requires-clause-apart : goal.lay_wired-requires-clause-apart
lay_wired-requires-clause-apart c = rw c.in_ok-wiring.ensures (sym c.in_ok-fault.ensures ∙ c.in_default.is)

pub returns-clause-fault : goal.returns-clause-fault
returns-clause-fault c = rw c.in_ok-wiring.ensures at c.lay_wired.ensures.fault

pub returns-clause-laid : goal.returns-clause-laid
returns-clause-laid c = rw c.in_ok-wiring.ensures at c.lay_wired.ensures.laid
