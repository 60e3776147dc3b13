use Rattle.adl_names.proofs.Common.{Name, bytes_eq, drop, find, member_of, members_told, option_or, ◌≡◌}
use Rattle.adl_names.proofs.tables.members_of.Given as goal

abbrev pub invariant-loop-instance : goal.invariant-loop-instance
invariant-loop-instance l = (n : Name)
    → option_or (members_told l.members n) (find (λ i. bytes_eq n i.id.name) (drop l.instance-index l.group.instances))
    ≡ member_of l.group n
