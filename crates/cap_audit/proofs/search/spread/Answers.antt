use Rattle.cap_audit.proofs.Common.{IsCounted, List, Way, [], ap, replicate, subst, ℕ, ◌∙◌}
use Rattle.cap_audit.proofs.Beginning.{blank_search, no_hub}
use Rattle.cap_audit.proofs.Looking.{all_alike, all_found, slots_on}
use Rattle.cap_audit.proofs.search.spread.Goals as goal

pub search-requires-clause-search : goal.search-requires-clause-search
search-requires-clause-search c =
    blank_search c.args.spec.now _ c.in_ok-hubs.hubs c.in_ok-findings.ensures.found
    (c.in_ok-net.ensures.out ∙ ap (λ (n : ℕ). replicate {A = List Way} n []) c.len-n.ensures)
    (subst (λ (n : ℕ). IsCounted c.in_ok-net.net.classes n) c.len-n.ensures c.in_ok-net.ensures.classes)
    (c.in_ok-hubs.ensures.grants ∙ ap no_hub c.len-n.ensures) (c.in_ok-hubs.ensures.replies ∙ ap no_hub c.len-n.ensures)

pub returns-clause-closed : goal.returns-clause-closed
returns-clause-closed c =
    all_found c.args.spec.now c.search.new.web c.search.new.hubs c.in_ok-search.ensures.search
    (slots_on c.args.spec.now c.in_ok-findings.findings c.search.new.web.findings c.in_ok-search.ensures.later.grows
    c.in_ok-findings.ensures.slots)

pub returns-clause-alike : goal.returns-clause-alike
returns-clause-alike c =
    all_alike c.args.spec.now c.search.new.web c.search.new.hubs c.in_ok-search.ensures.search
    (slots_on c.args.spec.now c.in_ok-findings.findings c.search.new.web.findings c.in_ok-search.ensures.later.grows
    c.in_ok-findings.ensures.slots) c.into_classes.result.items c.into_classes.ensures
