-- The labels of endpoints and notifications
use Rattle.spec_laws.proofs.Common.{CanMap, Directory, FlatConnection, Interrupt, IsIn, IsNamed, IsOf, Level, List, None, Notification, OfConnection, Option, Part, Rpc, Series, Some, Tables, [], ap, arith, below, endpoint}
use Rattle.spec_laws.proofs.Common.{from_get_map, in_place, labels_of, length, level_series, name_of, notification, part_name, parts, place_is, refl, rules, slice_get, spec_of, subst, ℕ, ◌<◌, ◌∙◌, ◌∷◌, ◌≡◌, ◌⊎◌, true, false, true≢false, Bool}
use Rattle.system_spec.specs.declared.series.Series.TheVariants as series
use Rattle.spec_laws.proofs.Labels.{label_is}
use Rattle.spec_laws.proofs.EachPart.{of_every}
use Rattle.spec_laws.proofs.Names.{same_number, same_series}

-- ---- which parts are named as endpoints and notifications

abbrev first : List ℕ → ℕ
first [] = 0
first (b ∷ bs) = b

abbrev is_joint : Series → Bool
is_joint series.Ep = true
is_joint series.Ntfn = true
is_joint _ = false

no_level : (l : Level) → is_joint (level_series l) ≡ false
no_level Directory = refl
no_level _ = refl

module _ (t : Tables) where
  -- the number of an endpoint or a notification is that of its connection
  record IsNumbered (p : Part) : Type 0 where
    is : p.owner ≡ OfConnection p.number
    low : p.number < length t.flat.connections

  abbrev Fits : Part → Type 0
  Fits p = is_joint p.series ≡ true → IsNumbered p

  fits : (p : Part) → IsIn p (parts t) → Fits p
  fits = of_every t Fits (search (rules, below, no_level))

  -- the part of a name
  named_part : (at n : ℕ) (s : Series) → (0 < first (name_of s n)) → IsNamed (spec_of t) at s n
      → (p : Part) × (slice_get (parts t) at ≡ Some p) × (part_name p ≡ name_of s n)
  named_part at n s l h = search (rules, from_get_map)

  labelled : (at : ℕ) (p : Part) → slice_get (parts t) at ≡ Some p → IsOf t (labels_of t) at p.owner
  labelled at p e = let P : ℕ → Type 0 = λ z. IsOf t (labels_of t) z p.owner in
      subst P (place_is t at p e) (label_is t p (in_place p (parts t) at e))

  joint_label : CanMap t → (s : Series) → is_joint s ≡ true → (at k : ℕ) (c : FlatConnection)
      → slice_get t.flat.connections k ≡ Some c → (0 < first (name_of s k)) → IsNamed (spec_of t) at s k
      → IsOf t (labels_of t) at (OfConnection k)
  joint_label can s joint at k c h some n =
      let p = named_part at k s some n in
      let f = fits p.0 (in_place p.0 (parts t) at p.1) (ap is_joint (same_series p.0.series s p.0.number k p.2) ∙ joint) in
      let number = same_number p.0.series s p.0.number k (omega (arith, can.lay.connections, f.low))
      (omega (arith, can.lay.connections, below t.flat.connections k c h)) p.2 in
      subst (λ z. IsOf t (labels_of t) at z) (f.is ∙ ap (λ z. OfConnection z) number) (labelled at p.0 p.1)

  pub endpoints_are : CanMap t → (at k : ℕ) (c : FlatConnection) → slice_get t.flat.connections k ≡ Some c → c.connector ≡ Rpc
      → IsNamed (spec_of t) at series.Ep k → IsOf t (labels_of t) at (OfConnection k)
  endpoints_are can at k c h m n = joint_label can series.Ep refl at k c h (omega arith) n

  pub notifications_are : CanMap t → (at k : ℕ) (c : FlatConnection) → slice_get t.flat.connections k ≡ Some c
      → (c.connector ≡ Notification) ⊎ (c.connector ≡ Interrupt) → IsNamed (spec_of t) at series.Ntfn k
      → IsOf t (labels_of t) at (OfConnection k)
  notifications_are can at k c h m n = joint_label can series.Ntfn refl at k c h (omega arith) n
