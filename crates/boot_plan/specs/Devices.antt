-- The first object that needs a page that no region of a device has, or that an earlier object needs.
use Rattle.std.specs.Prelude.{ℕ, ◌+◌, ◌==◌, leb, Bool, not, ◌&&◌, if◌then◌else◌, List, [], ◌∷◌, ◌++◌, Option, Some, None}
use Rattle.std.specs.List.{list_any}
use Rattle.boot_plan.specs.Regions.{region_end}
use Rattle.boot_plan.specs.declared.need.Need.{Need}
use Rattle.boot_plan.specs.declared.need.Need.TheVariants.{Nothing, DevicePage, Block}
use Rattle.boot_plan.specs.declared.plan_refusal.PlanRefusal.{PlanRefusal}
use Rattle.boot_plan.specs.declared.plan_refusal.PlanRefusal.TheVariants.{NoDevice, SharedFrame}
use Rattle.boot_plan.specs.declared.untyped.Untyped.{Untyped}

-- the region is a device's, and has the page
abbrev pub has_page : ℕ → Untyped → Bool
has_page paddr r = r.device && (leb r.paddr paddr && leb (paddr + 4096) (region_end r))

abbrev pub is_needed : ℕ → List ℕ → Bool
is_needed paddr before = list_any (λ p. p == paddr) before

-- the pages of devices that objects before this one need, and its number
abbrev pub device_refusal : List Untyped → List ℕ → ℕ → List Need → Option PlanRefusal
device_refusal rs before k [] = None
device_refusal rs before k (Nothing ∷ ns) = device_refusal rs before (k + 1) ns
device_refusal rs before k (Block bits ∷ ns) = device_refusal rs before (k + 1) ns
device_refusal rs before k (DevicePage paddr ∷ ns) =
    if not (list_any (has_page paddr) rs) then Some (NoDevice k)
    else if is_needed paddr before then Some (SharedFrame k)
    else device_refusal rs (before ++ paddr ∷ []) (k + 1) ns
