use Rattle.adl_hierarchy.proofs.Common.{hierarchy_of, top_number}
use Rattle.adl_hierarchy.proofs.DomainNames.{domains_are, domains_once, leaves_of_domain, domain_leaves_once}
use Rattle.adl_hierarchy.proofs.Grouping.{group_is_outermost}
use Rattle.adl_hierarchy.proofs.laws.domains_are_the_domains.Goals as goal

pub returns-clause-each : goal.returns-clause-each
returns-clause-each c = λ s sound d. domains_are (hierarchy_of s) d

pub returns-clause-once : goal.returns-clause-once
returns-clause-once c = λ s sound. domains_once (hierarchy_of s)

pub returns-clause-leaves : goal.returns-clause-leaves
returns-clause-leaves c = λ s sound d n. leaves_of_domain (hierarchy_of s) d n

pub returns-clause-leaves_once : goal.returns-clause-leaves_once
returns-clause-leaves_once c = λ s sound d. domain_leaves_once (hierarchy_of s) d

pub returns-clause-groups : goal.returns-clause-groups
returns-clause-groups c = λ s p d. group_is_outermost (hierarchy_of s) (top_number (hierarchy_of s)) p d
