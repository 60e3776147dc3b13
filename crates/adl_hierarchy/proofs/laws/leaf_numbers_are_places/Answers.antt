use Rattle.adl_hierarchy.proofs.Common.{hierarchy_of}
use Rattle.adl_hierarchy.proofs.DomainNames.{leaf_number_is, domain_number_is, domain_found}
use Rattle.adl_hierarchy.proofs.laws.leaf_numbers_are_places.Goals as goal

pub returns-clause-leaves : goal.returns-clause-leaves
returns-clause-leaves c = leaf_number_is

pub returns-clause-domains : goal.returns-clause-domains
returns-clause-domains c = λ s sound n d e. domain_number_is (hierarchy_of s) n d e

pub returns-clause-found : goal.returns-clause-found
returns-clause-found c = λ s sound d i. domain_found (hierarchy_of s) d i
