use Rattle.arch_policy.proofs.Common.{same_edge, sym}
use Rattle.std.proofs.lemmas.List.Sorted.{list_any-IsPermutation}
use Rattle.arch_policy.proofs.cert.sorted.Goals as goal

pub returns : goal.returns
returns c e =
    sym (list_any-IsPermutation (λ d. same_edge d e) c.args.edges.items c.sort.new.self.items c.sort.ensures.permutation)
