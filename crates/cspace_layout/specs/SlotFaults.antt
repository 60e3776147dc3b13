-- The limits on slots: a domain has slots for at most 4,095 uses, and all domains together for at most 65,536. The fault
-- of a limit stands at the keyword of the assembly, and its name says which one is passed. Both stand at one place, so the
-- first of them in this order is told.
use Rattle.std.specs.Prelude.{ℕ, List, [], ◌∷◌, ◌++◌, map, length, max, sum, codes, Option}
use Rattle.cspace_layout.specs.Below.{Flat, ItemAt}
use Rattle.std.specs.List.{flat_map}
use Rattle.cam_base.specs.declared.place.Fault.{Fault}
use Rattle.adl_ast.specs.declared.composition.Assembly.{Assembly}
use Rattle.adl_ast.specs.declared.source.Source.{Source}
use Rattle.adl_meaning.specs.Faults.{least}
use Rattle.adl_meaning.specs.Items.{assemblies}
use Rattle.adl_meaning.specs.SizeFaults.{limit_passed}
use Rattle.cspace_layout.specs.declared.plan.Slots.{Slots}
use Rattle.cspace_layout.specs.Uses.{slots_of}

-- the number of uses of each domain
abbrev pub counts : Slots → List ℕ
counts slots = map (λ plan. length plan.uses) slots.domains

-- the greatest of the numbers, and 0 where there is none
abbrev pub greatest : List ℕ → ℕ
greatest [] = 0
greatest (n ∷ ns) = max n (greatest ns)

abbrev pub limits_passed : List ℕ → ItemAt × Assembly → List Fault
limits_passed ns a = limit_passed a (codes "slots") 4095 (greatest ns) ++ limit_passed a (codes "all slots") 65536 (sum ns)

abbrev pub slot_faults : Source → Flat → List Fault
slot_faults source flat = flat_map (limits_passed (counts (slots_of source flat))) (assemblies source)

abbrev pub first_slot_fault : Source → Flat → Option Fault
first_slot_fault source flat = least (slot_faults source flat)
