use Rattle.least_cert.proofs.Growth.{merged}
use Rattle.least_cert.proofs.closing.Closing.merge.Goals as goal

pub relabel-requires : goal.relabel-requires
relabel-requires c = c.in_ok-copy.ensures.copied.grows.sound.few_leaders

pub returns-clause-joined : goal.returns-clause-joined
returns-clause-joined c =
    merged c.args.to c.args.from c.args.self.now c.copy.new.self c.relabel.new.self c.in_ok-copy.ensures.copied
    c.in_ok-relabel.ensures c.requires.there c.requires.back c.requires.first c.requires.second
