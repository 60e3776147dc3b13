use Rattle.source_commands.proofs.Common.{front_sound}
use Rattle.front_end.proofs.Within.{few_labels, sound_within}
use Rattle.source_commands.proofs.Explaining.{front_explained}
use Rattle.source_commands.proofs.explanation.explain.Goals as goal

pub answer_of-requires-clause-within : goal.answer_of-requires-clause-within
answer_of-requires-clause-within g c =
    let f = c.in-Ok.front in
    let some = g.met.F.Files.some c.front.new.files in
    sound_within f.source f.flat f.settled (front_sound c.args.root.now some.0 f (c.in-Ok.ensures.front some.0 some.1))

pub answer_of-requires-clause-few : goal.answer_of-requires-clause-few
answer_of-requires-clause-few g c =
    let f = c.in-Ok.front in
    let some = g.met.F.Files.some c.front.new.files in
    few_labels f.source f.flat f.settled (front_sound c.args.root.now some.0 f (c.in-Ok.ensures.front some.0 some.1))

pub returns-in-Ok-clause-explained : goal.returns-in-Ok-clause-explained
returns-in-Ok-clause-explained g c m told =
    let q = c.args.question.now in
    front_explained q.from.now q.authority.now q.to.now c.args.root.now m (g.F.Files.faults c.args.files.now)
    (g.F.Files.faults c.front.new.files) c.in-Ok.front c.answer_of.result c.told.result (c.in-Ok.ensures.front m told)
    c.answer_of.ensures c.told.ensures
