use Rattle.adl_program.proofs.Common.{Name, declared_by, drop, flat_map, option_or, ◌≡◌}
use Rattle.adl_items.specs.Declaring.{declaring_told}
use Rattle.adl_items.specs.Firsts.{first_named}
use Rattle.adl_program.proofs.body.declared_in.Given as goal

abbrev pub invariant-loop-member : goal.invariant-loop-member
invariant-loop-member l =
    (n : Name) → option_or (declaring_told l.declared n) (first_named (flat_map declared_by (drop l.member-index l.members)) n)
    ≡ first_named (flat_map declared_by l.members) n
