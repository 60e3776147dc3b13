-- The settings of ends by number, and the positions of `from` ends.
use Rattle.adl_settings.proofs.Common.{Flat, FlatEnd, Found, From, Hierarchy, Interface, Joint, List, None, Option, Role, Some, Source, To, [], and_parts, ap, arith, cond, end_settings, filter, filter_map, flat_of, found_at, found_of, found_on, hierarchy_of, interface_at, is_from, is_some, list_all, map, option_and_then, option_and_then_some, option_map, positioned_after, refl, settled_of, slice_get, slice_get-map, subst, suc, sym, true, zero, ℕ, ◌+◌, ◌∙◌, ◌∷◌, ◌≡◌}
use Rattle.adl_settings.specs.Joints.{behind}
use Rattle.adl_meaning.specs.declared.flat.FlatConnection.{FlatConnection}
use Rattle.adl_settings.specs.EndMeaning.{end_setting}
use Rattle.adl_settings.specs.NumberedEnds.{IsFoundAt, joins_interface, setting_at}

-- ---- ends with their positions

pub position_of : (before : ℕ) (es : List FlatEnd) (n : ℕ) (e : FlatEnd) → slice_get es n ≡ Some e
    → (p : ℕ) × (slice_get (positioned_after before es) n ≡ Some (p, e))
position_of before [] n e i = cc
position_of before (x ∷ es) zero e i = let same : x ≡ e = cc in (before + 1, ap (λ y. Some (before + 1, y)) same)
position_of before (x ∷ es) (suc n) e i = position_of (behind before x.role) es n e i

module _ (h : Hierarchy) (s : Source) (flat : Flat) (k : FlatConnection) where
  -- an end that joins an interface has values, with any position
  found_there : (p : ℕ) (e : FlatEnd) → joins_interface s flat e ≡ true → (f : Found) × IsFoundAt h s flat k e f
      × (found_of h s flat k (p, e) ≡ Some f)
  found_there p e joins = by_interface (option_and_then (λ leaf. interface_at s leaf e.member) (slice_get flat.leaves e.leaf))
      refl joins
    where
      by_interface : (o : Option Interface) → option_and_then (λ leaf. interface_at s leaf e.member)
          (slice_get flat.leaves e.leaf) ≡ o → is_some o ≡ true
          → (f : Found) × IsFoundAt h s flat k e f × (found_of h s flat k (p, e) ≡ Some f)
      by_interface None m j = cc
      by_interface (Some i) m j =
          option_and_then_some (λ leaf. interface_at s leaf e.member) (slice_get flat.leaves e.leaf) i m (λ leaf l m.
          let at : Joint = record { connection = k; position = p; end = e; leaf = leaf; interface = i } in
          (found_at h at, record { connection = refl; end = refl; leaf = l; interface = m; values = refl }, rw (l, m) refl))

  -- where each end joins an interface, end n has the n-th values
  found_nth : (before : ℕ) (es : List FlatEnd) (n : ℕ) (e : FlatEnd) → list_all (joins_interface s flat) es ≡ true
      → slice_get es n ≡ Some e
      → (f : Found) × IsFoundAt h s flat k e f
      × (slice_get (filter_map (found_of h s flat k) (positioned_after before es)) n ≡ Some f)
  found_nth before [] n e all i = cc
  found_nth before (x ∷ es) zero e all i =
      let got = found_there (before + 1) x (and_parts (joins_interface s flat x) (list_all (joins_interface s flat) es) all).0 in
      let same : x ≡ e = cc in
      let is = got.2 in
      (got.0, subst (λ y. IsFoundAt h s flat k y got.0) same got.1, rw is refl)
  found_nth before (x ∷ es) (suc n) e all i =
      let parts = and_parts (joins_interface s flat x) (list_all (joins_interface s flat) es) all in
      let is = (found_there (before + 1) x parts.0).2 in
      let rest = found_nth (behind before x.role) es n e parts.1 i in
      (rest.0, rest.1, rw is rest.2)

pub setting_at_number : (s : Source) (i n : ℕ) (k : FlatConnection) (e : FlatEnd) → slice_get (flat_of s).connections i ≡ Some k
    → list_all (joins_interface s (flat_of s)) k.ends ≡ true → slice_get k.ends n ≡ Some e
    → (f : Found) × IsFoundAt (hierarchy_of s) s (flat_of s) k e f × (setting_at (settled_of s) i n ≡ Some (end_setting f))
setting_at_number s i n k e at all is =
    let h = hierarchy_of s in
    let flat = flat_of s in
    let got = found_nth h s flat k 0 k.ends n e all is in
    let connection = slice_get-map end_settings (map (found_on h s flat) flat.connections) i ∙ ap (option_map end_settings)
    (slice_get-map (found_on h s flat) flat.connections i ∙ ap (option_map (found_on h s flat)) at) in (
      got.0,
      got.1,
      ap (option_and_then (λ c. slice_get c.ends n)) connection ∙ slice_get-map end_setting (found_on h s flat k) n
          ∙ ap (option_map end_setting) got.2,
    )

abbrev pub from_ends : ℕ → List FlatEnd → List (ℕ × FlatEnd)
from_ends n es = filter (λ x. is_from x.1.role) (positioned_after n es)

-- the `from` ends have the numbers that follow, without a gap
pub position_nth : (n : ℕ) (es : List FlatEnd) (i : ℕ) (x : ℕ × FlatEnd) → slice_get (from_ends n es) i ≡ Some x → x.0 ≡ n + i + 1
position_nth n [] i x e = cc
position_nth n (f ∷ es) i x e = by_role f.role i (λ j. position_nth (n + 1) es j x) (λ j. position_nth n es j x) e
  where
    by_role : (r : Role) (i : ℕ) → ((j : ℕ) → slice_get (from_ends (n + 1) es) j ≡ Some x → x.0 ≡ n + 1 + j + 1)
        → ((j : ℕ) → slice_get (from_ends n es) j ≡ Some x → x.0 ≡ n + j + 1)
        → slice_get (cond (is_from r) ((n + 1, f) ∷ from_ends (behind n r) es) (from_ends (behind n r) es)) i ≡ Some x
        → x.0 ≡ n + i + 1
    by_role From zero more same e = let h : (n + 1, f) ≡ x = cc in sym (ap (λ (y : ℕ × FlatEnd). y.0) h) ∙ omega arith
    by_role From (suc i) more same e = more i e ∙ omega arith
    by_role To i more same e = same i e
