-- In the source of a build there is none of the faults that listing refuses.
use Rattle.std.proofs.Common.{rules}
use Rattle.camkes_tool.proofs.BackCommon.{Build, Contents, IsBuildOf, List, None, build_facts, first_edge_fault, first_list_fault, option_or, source_tables, ℕ, ◌∙◌, ◌≡◌}

pub none_listed : (root : List ℕ) (contents : Contents) (b : Build) → IsBuildOf root contents b
    → first_list_fault b.meaning.source ≡ None
none_listed root contents b is = search (rules, option_or, first_edge_fault, source_tables, build_facts)
