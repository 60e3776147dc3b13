-- Lines of regions.
use Rattle.boot_plan.proofs.Common.{Bool, List, None, Ok, Option, Some, Untyped, [], append_assoc, are_regions, arith, device_of, false, first_bad, is_region, judged, length, length_push, line_given, list_all-append, nat_lt, nat_tests}
use Rattle.boot_plan.proofs.Common.{numbers_of, refl, region_at, region_in, region_of, regions_in, rules, true, ℕ, ◌++◌, ◌+◌, ◌<◌, ◌∙◌, ◌∷◌, ◌≡◌, ◌≤◌}
use Rattle.std.proofs.lemmas.Option.{same_Some}
use Rattle.std.specs.Borrow.{Bor}
use Rattle.boot_plan.specs.declared.untyped.UntypedFault.{UntypedFault}
use Rattle.cam_base.specs.Fields.{fields}
use Rattle.cam_base.specs.Lines.{Line}
use Rattle.cam_base.specs.LineTexts.{texts}

-- fields too few or too many
pub no_region : (fields : List (Bor (List ℕ))) → (length fields ≡ 3 → ⊥) → region_of (texts fields) ≡ None
no_region [] other = refl
no_region (a ∷ []) other = refl
no_region (a ∷ b ∷ []) other = refl
no_region (a ∷ b ∷ c ∷ []) other = absurd (other refl)
no_region (a ∷ b ∷ c ∷ d ∷ fields) other = refl

judged_ok : (before : ℕ) (line : Line) (o : Option Untyped) (r : Untyped) → judged before line o ≡ Ok r → o ≡ Some r
judged_ok before line None r e = absurd cc
judged_ok before line (Some q) r e = search (rules, nat_lt)

mapped : (line : Line) (more : List Line) (o : Option Untyped) (r : Untyped) → region_of (fields line.text) ≡ Some r
    → regions_in (line ∷ more) ≡ r ∷ regions_in more
mapped line more o r e = rw e refl

-- what a line that spells a region is given as
pub record Given (before : ℕ) (r : Untyped) : Type 0 where
  pub few : before < 4096
  pub sound : is_region r.paddr r.bits ≡ true

judged_few : (before : ℕ) (line : Line) (o : Option Untyped) (r : Untyped) → judged before line o ≡ Ok r → before < 4096
judged_few before line None r e = absurd cc
judged_few before line (Some q) r e = search (rules, nat_lt, nat_tests)

at_sound : (device : Bool) (paddr bits : ℕ) (r : Untyped) → region_at device (Some (paddr, bits)) ≡ Some r
    → is_region r.paddr r.bits ≡ true
at_sound device paddr bits r e = search (rules, same_Some)

in_sound : (device : Option Bool) (numbers : Option (ℕ × ℕ)) (r : Untyped) → region_in device numbers ≡ Some r
    → is_region r.paddr r.bits ≡ true
in_sound None numbers r e = absurd cc
in_sound (Some device) None r e = absurd cc
in_sound (Some device) (Some (paddr, bits)) r e = at_sound device paddr bits r e

of_sound : (fs : List (List ℕ)) (r : Untyped) → region_of fs ≡ Some r → is_region r.paddr r.bits ≡ true
of_sound [] r e = absurd cc
of_sound (a ∷ []) r e = absurd cc
of_sound (a ∷ b ∷ []) r e = absurd cc
of_sound (a ∷ b ∷ c ∷ []) r e = in_sound (device_of a) (numbers_of b c) r e
of_sound (a ∷ b ∷ c ∷ d ∷ fs) r e = absurd cc

given : (before : ℕ) (line : Line) (r : Untyped) → line_given before line ≡ Ok r → Given before r
given before line r e = search (rules, judged_few, of_sound, judged_ok)

-- a region more keeps regions few and sound
pub record Sound (regions : List Untyped) : Type 0 where
  pub few : length regions ≤ 4096
  pub sound : are_regions regions ≡ true

pub sound_more : (regions new : List Untyped) (n : ℕ) (line : Line) (r : Untyped) → n ≡ length regions → line_given n line ≡ Ok r
    → Sound regions → new ≡ regions ++ r ∷ [] → Sound new
sound_more regions new n line r same e h pushed = search (rules, given, length_push, list_all-append)

pub record Step (read : List Untyped) (more : List Line) (bads : Option UntypedFault) (all : List Untyped) : Type 0 where
  pub bad : first_bad (length read) more ≡ bads
  pub regions : read ++ regions_in more ≡ all

-- a line more that spells a region
pub region_step : (regions : List Untyped) (n : ℕ) (line : Line) (left more : List Line) (r : Untyped)
    (bads : Option UntypedFault) (all new : List Untyped) → n ≡ length regions → left ≡ line ∷ more
    → line_given n line ≡ Ok r → first_bad (length regions) left ≡ bads → regions ++ regions_in left ≡ all
    → new ≡ regions ++ r ∷ [] → Step new more bads all
region_step regions n line left more r bads all new same is given bad so_far pushed =
    search (rules, length_push, append_assoc, mapped, judged_ok)
