use Rattle.adl_names.proofs.Common.{as_composition, drop, filter_map, flat_map, instances_by, instances_in, pointed, ◌++◌, ◌+◌, ◌≡◌}
use Rattle.adl_names.proofs.recursion.instances.Given as goal

abbrev pub invariant-loop-member : goal.invariant-loop-member
invariant-loop-member l =
    pointed l.found.items ++ flat_map instances_in (filter_map as_composition (drop l.member-index l.member-items)) ≡ flat_map
    instances_in (filter_map as_composition l.component.members)

abbrev pub invariant-loop-line : goal.invariant-loop-line
invariant-loop-line l =
    pointed l.found.items ++ (flat_map instances_by (drop l.line-index l.line-items)
    ++ flat_map instances_in (filter_map as_composition (drop (l.member-index + 1) l.member-items)))
    ≡ flat_map instances_in (filter_map as_composition l.component.members)

abbrev pub invariant-loop-instance : goal.invariant-loop-instance
invariant-loop-instance l =
    pointed l.found.items ++ (drop l.instance-index l.instance-items
    ++ (flat_map instances_by (drop (l.line-index + 1) l.line-items)
    ++ flat_map instances_in (filter_map as_composition (drop (l.member-index + 1) l.member-items))))
    ≡ flat_map instances_in (filter_map as_composition l.component.members)
