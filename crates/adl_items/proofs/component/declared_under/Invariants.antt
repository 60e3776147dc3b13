use Rattle.adl_items.proofs.Common.{declared_by, first_named}
use Rattle.std.specs.Prelude.{drop, ◌≡◌}
use Rattle.std.specs.List.{flat_map}
use Rattle.adl_items.proofs.component.declared_under.Given as goal

abbrev pub invariant-loop-member : goal.invariant-loop-member
invariant-loop-member l =
    first_named (flat_map declared_by (drop l.member-index l.members)) l.name
    ≡ first_named (flat_map declared_by l.members) l.name
