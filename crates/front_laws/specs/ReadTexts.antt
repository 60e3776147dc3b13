-- Which line of a text is refused, and for what. All lines in front of it are read, and no more of them than there may be;
-- what is wrong with it follows from the line alone, but for the limit.
use Rattle.std.specs.Prelude.{◌≡◌, ◌≤◌, ℕ, List, ◌∷◌, ◌++◌, codes, length, None, Some}
use Rattle.boot_plan.specs.UntypedTexts.{fault, fault_at, region_of, regions_limit}
use Rattle.boot_plan.specs.declared.untyped.Untyped.{Untyped}
use Rattle.boot_plan.specs.declared.untyped.UntypedCode.TheVariants as untyped
use Rattle.boot_plan.specs.declared.untyped.UntypedFault.{UntypedFault}
use Rattle.cam_base.specs.Gather.{IsIn}
use Rattle.cam_base.specs.Fields.{fields}
use Rattle.cam_base.specs.Lines.{Line, lines}

-- ---- regions

-- the line spells a region
abbrev pub SpellsRegion : Line → Type 0
SpellsRegion line = (r : Untyped) × (region_of (fields line.text) ≡ Some r)

-- the text begins with the line that says what it is, and these lines follow
pub record HasHead (bytes : List ℕ) (more : List Line) : Type 0 where
  pub head : Line
  pub all : lines bytes ≡ head ∷ more
  pub says : head.text ≡ codes "untypeds 1"

-- all lines in front of this one spell regions, and there is room for them
pub record IsRegionLine (more before : List Line) (line : Line) : Type 0 where
  pub after : List Line
  pub split : more ≡ before ++ line ∷ after
  pub read : (l : Line) → IsIn l before → SpellsRegion l
  pub room : length before ≤ regions_limit

pub data IsRegionFault (bytes : List ℕ) (f : UntypedFault) : Type 0 where
  no_head : ((more : List Line) → HasHead bytes more → ⊥) → f ≡ fault untyped.Syntax 0 0 → IsRegionFault bytes f
  no_region : (more before : List Line) (line : Line) → HasHead bytes more → IsRegionLine more before line
      → region_of (fields line.text) ≡ None → f ≡ fault_at untyped.Syntax line → IsRegionFault bytes f
  one_region_more : (more before : List Line) (line : Line) → HasHead bytes more → IsRegionLine more before line
      → SpellsRegion line
      → length before ≡ regions_limit → f ≡ fault_at untyped.Limit line → IsRegionFault bytes f

-- the text has its first line, and each other spells a region, of which there are no more than may be
pub record AreRegionsRead (bytes : List ℕ) : Type 0 where
  pub more : List Line
  pub head : HasHead bytes more
  pub read : (l : Line) → IsIn l more → SpellsRegion l
  pub few : length more ≤ regions_limit
