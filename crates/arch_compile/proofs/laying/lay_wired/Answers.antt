use Rattle.arch_compile.proofs.Layouts.{sound_laid, sound_lays}
use Rattle.arch_compile.proofs.laying.lay_wired.Goals as goal

pub lay_apart-requires-clause-numbered : goal.lay_apart-requires-clause-numbered
lay_apart-requires-clause-numbered c = c.requires.imaged.numbered

pub lay_apart-requires-clause-settled : goal.lay_apart-requires-clause-settled
lay_apart-requires-clause-settled c =
    let m = c.args.wiring.now in sound_lays m.source m.flat m.settled c.args.images.now c.requires.sound

pub returns-clause-laid : goal.returns-clause-laid
returns-clause-laid c =
    let m = c.args.wiring.now in
    sound_laid m.source m.flat m.settled c.args.images.now c.requires.sound (record {
      slots = c.in_ok-slots.slots;
      spaces = c.in_ok-spaces.spaces;
    }) c.requires.imaged c.requires.apart c.in_ok-slots.ensures.limits c.in_ok-spaces.ensures.faults c.in_ok-slots.ensures.slots
    c.in_ok-spaces.ensures.spaces
