use Rattle.std.proofs.lemmas.Result.{IfOk-weaker}
use Rattle.arch_policy.proofs.Locking.{with_lock_adds}
use Rattle.arch_policy.proofs.cert.with_lock.Goals as goal

pub returns : goal.returns
returns c = IfOk-weaker c.with_set.result _ _ (λ new grown. with_lock_adds c.args.label _ c.args.edges.items new.items
    c.lock_authorities.ensures grown) c.with_set.ensures
