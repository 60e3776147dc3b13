-- The ends at which no fault of values can stand give nothing to any list of faults.
use Rattle.adl_settings.proofs.Common.{Found, List, None, Option, [], ap, arith, bad_at_end, badge_twice_at, filter, filter_map, flat_map, irqs_in, is_repeated, refl, region_of, ℕ, ◌++◌, ◌∙◌, ◌∷◌, ◌≡◌}
use Rattle.adl_settings.proofs.SettleCommon.{Bool, common_steps, false}
use Rattle.adl_settings.specs.BadgeTwice.{own_badge}
use Rattle.adl_settings.specs.DeviceOverlap.{regions_in}
use Rattle.adl_settings.specs.IrqTwice.{irq_at}
use Rattle.adl_settings.specs.Judged.{is_judged}
use Rattle.adl_settings.specs.Missing.{missing_at}
use Rattle.adl_settings.specs.SettingFaults.{faults_on}

-- ---- lists without what gives nothing

module _ {X Y : Type 0} (test : X → Bool) where
  flat_map-filter : (f : X → List Y) → ((x : X) → test x ≡ false → f x ≡ []) → (xs : List X)
      → flat_map f (filter test xs) ≡ flat_map f xs
  flat_map-filter f none [] = refl
  flat_map-filter f none (x ∷ xs) =
      let rest = flat_map-filter f none xs in
      let nothing = none x in
      grind arith

  filter_map-filter : (f : X → Option Y) → ((x : X) → test x ≡ false → f x ≡ None) → (xs : List X)
      → filter_map f (filter test xs) ≡ filter_map f xs
  filter_map-filter f none [] = refl
  filter_map-filter f none (x ∷ xs) =
      let rest = filter_map-filter f none xs in
      let nothing = none x in
      grind arith

-- ---- one end

module _ (f : Found) (e : is_judged f ≡ false) where
  no_bad : bad_at_end f ≡ []
  no_bad = grind (arith, common_steps)

  no_missing : missing_at f ≡ []
  no_missing = grind (arith, common_steps)

  no_badge : own_badge f ≡ None
  no_badge = grind (arith, common_steps)

  no_mark : (twice : ℕ → Bool) → badge_twice_at twice f ≡ []
  no_mark twice = let none = no_badge in grind (arith, common_steps)

  no_region : region_of f ≡ None
  no_region = grind (arith, common_steps)

  no_irq : irq_at f ≡ None
  no_irq = grind (arith, common_steps)

-- ---- the ends of a connection

pub faults_judged : (ends : List Found) → faults_on (filter is_judged ends) ≡ faults_on ends
faults_judged ends =
    let badges = filter_map-filter is_judged own_badge no_badge ends in
    let twice = is_repeated (filter_map own_badge ends) in
    let marks = flat_map-filter is_judged (badge_twice_at twice) (λ f e. no_mark f e twice) ends in
    λ i. flat_map-filter is_judged bad_at_end no_bad ends i ++ flat_map-filter is_judged missing_at no_missing ends i
    ++ (ap (λ ns. flat_map (badge_twice_at (is_repeated ns)) (filter is_judged ends)) badges ∙ marks) i

pub regions_judged : (ends : List Found) → regions_in (filter is_judged ends) ≡ regions_in ends
regions_judged ends = filter_map-filter is_judged region_of no_region ends

pub irqs_judged : (ends : List Found) → irqs_in (filter is_judged ends) ≡ irqs_in ends
irqs_judged ends = filter_map-filter is_judged irq_at no_irq ends
