use Rattle.arch_policy.proofs.Common.{told}
use Rattle.arch_policy.proofs.Locking.{certified, certifies}
use Rattle.arch_policy.proofs.cert.certificate_of.Goals as goal

pub returns-clause-exact : goal.returns-clause-exact
returns-clause-exact c = certified (told c.args.tables.now) c.args.policy.now _ _ _ _ _ c.in_ok-kept.ensures c.in_ok-edges.ensures
    c.in_ok-sorted.ensures c.as_slice.ensures.value c.in_ok-cert.ensures.same

pub returns-clause-cert : goal.returns-clause-cert
returns-clause-cert c =
    certifies (told c.args.tables.now) c.args.policy.now _ (certified (told c.args.tables.now) c.args.policy.now _ _ _ _ _
    c.in_ok-kept.ensures c.in_ok-edges.ensures c.in_ok-sorted.ensures c.as_slice.ensures.value c.in_ok-cert.ensures.same)
