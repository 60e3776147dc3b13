use Rattle.front_end.proofs.Refusing.{assigned_front, meaning_lists, meaning_sound}
use Rattle.front_end.proofs.phases.front.Goals as goal

pub with_policy-requires : goal.with_policy-requires
with_policy-requires g c =
    let some = g.met.F.Files.some c.meaning_of.new.files in
    meaning_sound c.args.root.now some.0 c.in-Ok.meaning (c.in-Ok.ensures.meaning some.0 some.1)

pub returns-in-Ok-clause-front : goal.returns-in-Ok-clause-front
returns-in-Ok-clause-front g c m told =
    assigned_front c.args.root.now m (g.F.Files.faults c.args.files.now) (g.F.Files.faults c.meaning_of.new.files) c.in-Ok.meaning
    c.with_policy.result (c.in-Ok.ensures.meaning m told) c.with_policy.ensures

pub returns-in-Err-clause-front : goal.returns-in-Err-clause-front
returns-in-Err-clause-front g c m told =
    meaning_lists c.args.root.now m (g.F.Files.faults c.args.files.now) (g.F.Files.faults c.meaning_of.new.files) c.in-Err.error
    (c.in-Err.ensures.meaning m told)
