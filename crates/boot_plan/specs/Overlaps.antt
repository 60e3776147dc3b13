-- The least region that shares an address with an earlier one, and the least such earlier one.
use Rattle.std.specs.Prelude.{ℕ, List, [], ◌∷◌, ◌++◌, length, Option, Some, None}
use Rattle.std.specs.List.{position}
use Rattle.std.specs.Option.{option_map, option_or}
use Rattle.boot_plan.specs.Regions.{shares}
use Rattle.boot_plan.specs.declared.plan_refusal.PlanRefusal.{PlanRefusal}
use Rattle.boot_plan.specs.declared.plan_refusal.PlanRefusal.TheVariants.{Overlap}
use Rattle.boot_plan.specs.declared.untyped.Untyped.{Untyped}

-- the least of the earlier regions, and the number of the region
abbrev pub overlap_at : List Untyped → Untyped → Option (ℕ × ℕ)
overlap_at before r = option_map (λ k. (k, length before)) (position (shares r) before)

abbrev pub overlap_behind : List Untyped → List Untyped → Option (ℕ × ℕ)
overlap_behind before [] = None
overlap_behind before (r ∷ rs) = option_or (overlap_at before r) (overlap_behind (before ++ r ∷ []) rs)

abbrev pub first_overlap : List Untyped → Option (ℕ × ℕ)
first_overlap rs = overlap_behind [] rs

abbrev pub refused_overlap : Option (ℕ × ℕ) → Option PlanRefusal
refused_overlap None = None
refused_overlap (Some (first, second)) = Some (Overlap first second)
