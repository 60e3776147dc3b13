use Rattle.least_cert.proofs.Common.{[], arith, rules, ◌++◌, ◌∷◌, ◌≡◌}
use Rattle.least_cert.proofs.Leading.{widens_all, widens_more}
use Rattle.least_cert.proofs.closing.widened.Goals as goal

pub loop-next-preserved : goal.loop-next-preserved
loop-next-preserved c =
    let pushed : c.push.new.self.items ≡ c.loop-next.leaders.items ++ c.loop-next.next ∷ [] = search rules in (
      widens_more c.loop-next.next c.args.leaders.items c.loop-next.leaders.items c.push.new.self.items c.loop-next.invariant.0
          pushed,
      omega arith,
    )

pub returns : goal.returns
returns c = widens_all c.loop-next.next c.args.label c.args.leaders.items c.loop-next.leaders.items c.loop-next.invariant.0
    (omega arith) c.loop-next.invariant.1
