-- The first limit on pages that is passed, at the keyword of the assembly, is the first fault of pages.
use Rattle.vspace_layout.proofs.Common.{Bool, List, None, Option, Some, arith, capped, codes, cond, false, flat_map, length, limit_over, limits_passed, ltb-false, ltb-true, option_map, refl, sym, true, ℕ, ◌<◌, ◌∙◌, ◌≡◌, ◌≤◌}
use lib.Dec.{ltb}
use Rattle.cam_base.specs.declared.place.Fault.{Fault}
use Rattle.cam_base.specs.declared.place.Place.{Place}
use Rattle.adl_ast.specs.declared.source.Source.{Source}
use Rattle.adl_meaning.specs.Faults.{least}
use Rattle.adl_meaning.specs.Items.{assemblies}
use Rattle.cspace_layout.proofs.Keyword.{has_place}
use Rattle.cspace_layout.proofs.Limits as two
use Rattle.cspace_layout.specs.Limit.{fault_at, keyword, limit_fault}

abbrev pub faults_of : Source → ℕ → ℕ → Option Fault
faults_of source pages tables = least (flat_map (limits_passed pages tables) (assemblies source))

module _ (source : Source) (n m : ℕ) (one : length (assemblies source) ≡ 1) where
  -- pages before tables
  pub pages_passed : 65536 < n → limit_fault source (codes "pages") ≡ faults_of source n m
  pages_passed over = two.first_passed (codes "pages") (codes "tables") 65536 65536 source n m one over

  pub tables_passed : n ≤ 65536 → 65536 < m → limit_fault source (codes "tables") ≡ faults_of source n m
  tables_passed within over = two.second_passed (codes "pages") (codes "tables") 65536 65536 source n m one within over

  pub none_passed : n ≤ 65536 → m ≤ 65536 → faults_of source n m ≡ None
  none_passed within none = sym (two.none_passed (codes "pages") (codes "tables") 65536 65536 source n m one within none)

-- a capped number is over the limit just where the number is
pub over_capped : (n : ℕ) → 65536 < capped n → 65536 < n
over_capped n l = omega arith

pub within_capped : (n : ℕ) → capped n ≤ 65536 → n ≤ 65536
within_capped n l = omega arith

-- ---- as it is looked for

-- a limit that is looked for and isn't passed
not_over : (source : Source) (n : ℕ) (name : List ℕ) → length (assemblies source) ≡ 1
    → limit_over source (capped n) name ≡ None → n ≤ 65536
not_over source n name one none = by_test (ltb 65536 (capped n)) refl none
  where
    never : (p : Place) (o : Option Place) → o ≡ Some p → option_map (λ place. fault_at place name) o ≡ None → ⊥
    never p None e d = cc
    never p (Some q) e d = cc

    by_test : (b : Bool) → ltb 65536 (capped n) ≡ b → cond b (limit_fault source name) None ≡ None → n ≤ 65536
    by_test true e h = let p = has_place (assemblies source) one in absurd (never p.0 (keyword source) p.1 h)
    by_test false e h = within_capped n (omega (arith, ltb-false 65536 (capped n) e))

is_over : (source : Source) (n : ℕ) (name : List ℕ) (f : Fault) → limit_over source (capped n) name ≡ Some f
    → (65536 < n) × (limit_fault source name ≡ Some f)
is_over source n name f some = by_test (ltb 65536 (capped n)) refl some
  where
    by_test : (b : Bool) → ltb 65536 (capped n) ≡ b → cond b (limit_fault source name) None ≡ Some f
        → (65536 < n) × (limit_fault source name ≡ Some f)
    by_test true e h = (over_capped n (ltb-true 65536 (capped n) e), h)
    by_test false e h = cc

pub pages_within : (source : Source) (n : ℕ) → length (assemblies source) ≡ 1
    → limit_over source (capped n) (codes "pages") ≡ None → n ≤ 65536
pages_within source n one none = not_over source n (codes "pages") one none

pub pages_over : (source : Source) (n m : ℕ) (f : Fault) → length (assemblies source) ≡ 1
    → limit_over source (capped n) (codes "pages") ≡ Some f → faults_of source n m ≡ Some f
pages_over source n m f one some = let o = is_over source n (codes "pages") f some in sym (pages_passed source n m one o.0) ∙ o.1

pub tables_over : (source : Source) (n m : ℕ) (f : Fault) → length (assemblies source) ≡ 1 → n ≤ 65536
    → limit_over source (capped m) (codes "tables") ≡ Some f → faults_of source n m ≡ Some f
tables_over source n m f one k some = let o = is_over source m (codes "tables") f some in
    sym (tables_passed source n m one k o.0) ∙ o.1

pub none_over : (source : Source) (n m : ℕ) → length (assemblies source) ≡ 1 → n ≤ 65536
    → limit_over source (capped m) (codes "tables") ≡ None → faults_of source n m ≡ None
none_over source n m one k none = none_passed source n m one k (not_over source m (codes "tables") one none)
