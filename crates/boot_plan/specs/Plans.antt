-- What is planned: a placement, where nothing refuses it, or the first refusal: that regions share an address; that an
-- object needs a page that no device has or that an earlier one needs; that there is no room.
use Rattle.std.specs.Prelude.{◌≡◌, ℕ, List, [], Option, Some, None, Result, Ok, Err}
use Rattle.cap_model.specs.declared.spec.Spec.{Spec}
use Rattle.boot_plan.specs.Devices.{device_refusal}
use Rattle.boot_plan.specs.Needs.{needs}
use Rattle.boot_plan.specs.Overlaps.{first_overlap}
use Rattle.boot_plan.specs.Placed.{Placed}
use Rattle.boot_plan.specs.Rooms.{HasRoom, LacksRoom}
use Rattle.boot_plan.specs.declared.need.Need.{Need}
use Rattle.boot_plan.specs.declared.plan_refusal.BootPlan.{BootPlan}
use Rattle.boot_plan.specs.declared.plan_refusal.PlanRefusal.{PlanRefusal}
use Rattle.boot_plan.specs.declared.plan_refusal.PlanRefusal.TheVariants.{Overlap, NoDevice, SharedFrame, NoRoom, NoMemory}
use Rattle.boot_plan.specs.declared.untyped.Untyped.{Untyped}

-- no two regions share an address, and each page of a device is there for one object
pub record AreFree (ns : List Need) (rs : List Untyped) : Type 0 where
  pub regions : first_overlap rs ≡ None
  pub devices : device_refusal rs [] 0 ns ≡ None

-- no places are a placement
abbrev pub CannotPlace : List Need → List Untyped → Type 0
CannotPlace ns rs = (places : List (Option ℕ)) → Placed ns rs places → ⊥

-- a refusal is the first that comes
abbrev pub Refuses : List Need → List Untyped → PlanRefusal → Type 0
Refuses ns rs (Overlap first second) = first_overlap rs ≡ Some (first, second)
Refuses ns rs (NoDevice frame) = (first_overlap rs ≡ None) × (device_refusal rs [] 0 ns ≡ Some (NoDevice frame))
Refuses ns rs (SharedFrame frame) = (first_overlap rs ≡ None) × (device_refusal rs [] 0 ns ≡ Some (SharedFrame frame))
Refuses ns rs (NoRoom bits need have) = AreFree ns rs × LacksRoom ns rs bits need have × CannotPlace ns rs
Refuses ns rs NoMemory = Unit {0}

pub record Places (ns : List Need) (rs : List Untyped) (places : List (Option ℕ)) : Type 0 where
  pub free : AreFree ns rs
  pub room : HasRoom ns rs
  pub placed : Placed ns rs places

abbrev pub IsPlannedFor : List Need → List Untyped → Result BootPlan PlanRefusal → Type 0
IsPlannedFor ns rs (Ok plan) = Places ns rs plan.places
IsPlannedFor ns rs (Err refusal) = Refuses ns rs refusal

-- what is planned for the objects of a spec
abbrev pub IsPlanned : Spec → List Untyped → Result BootPlan PlanRefusal → Type 0
IsPlanned spec rs result = IsPlannedFor (needs spec) rs result

-- whether a refusal comes
abbrev pub IsFreeTold : List Need → List Untyped → Result (Unit {0}) PlanRefusal → Type 0
IsFreeTold ns rs (Ok _) = AreFree ns rs × HasRoom ns rs
IsFreeTold ns rs (Err refusal) = Refuses ns rs refusal
