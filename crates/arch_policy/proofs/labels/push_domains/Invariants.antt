use Rattle.arch_policy.proofs.Common.{domain_texts, drop, firsts, ◌++◌, ◌≡◌}
use Rattle.arch_policy.proofs.labels.push_domains.Given as goal

abbrev pub invariant-loop-domain : goal.invariant-loop-domain
invariant-loop-domain l = firsts l.texts ++ domain_texts (drop l.domain-index l.domains) ≡ firsts l.fn.texts
    ++ domain_texts l.domains
