-- An interrupt has an end at a device, and no two interrupts have one number.
use Rattle.spec_laws.proofs.Common.{AreDotted, AreNamesSound, AreSettingsSound, FlatConnection, FlatEnd, Found, From, Interrupt, IsIn, List, None, Option, Role, Some, Source, To, [], alone, and_from, ap, arith, bad_at_end, bad_unless, bad_value}
use Rattle.spec_laws.proofs.Common.{cond, cond_both, count_by, counted, device_place, end_rule, ends_typed, eq-eqb, first_type_fault, flat_of, found_on, founds_in, get_map, hierarchy_of, in_filter_map, in_flat_map, in_map, in_place, irq_in}
use Rattle.spec_laws.proofs.Common.{irq_number, irq_of, is_device_event, is_some, is_there, le-leb, leb-true, leb_tells, map, map-append, meaning, missing_at, nat_le, none_in, none_right, option_and_then, or_right}
use Rattle.spec_laws.proofs.Common.{place_of, position_found, refl, rules, settled_of, slice_get, so, some_end, subst, sum_by-append, sum_by-cons, sym, true, ℕ, ◌+◌, ◌==◌, ◌∙◌, ◌∷◌, ◌≡◌, ◌≤◌}
use Rattle.std.specs.Prelude.{option_map}
use Rattle.adl_hierarchy.proofs.Exports.{not_so}
use Rattle.adl_meaning.specs.Values.{Given}
use Rattle.adl_settings.specs.IrqTwice.{irq_from, irqs_in, irq_at, irqs}
use Rattle.adl_settings.specs.declared.twice.Irq.{Irq}
use Rattle.spec_laws.proofs.SettledEnds.{end_found}
use Rattle.spec_laws.proofs.SpaceBounds.{at_position}
use Rattle.system_spec.specs.Tables.{is_hardware}

-- ---- the end at the device

module _ (s : Source) (sound : AreNamesSound s) (dotted : AreDotted (hierarchy_of s)) (types : first_type_fault s ≡ None) where
  pub device_there : (k : ℕ) (c : FlatConnection) → slice_get (flat_of s).connections k ≡ Some c → c.connector ≡ Interrupt
      → (n : ℕ) × (e : FlatEnd) × (device_place c.connector c.ends ≡ Some n) × (slice_get c.ends n ≡ Some e)
      × (is_hardware c.connector e ≡ true)
  device_there k c at int =
      let d = some_end s sound dotted types k c at From in
      let n = position_found (is_hardware c.connector) c.ends d.0 d.1 d.2 (ap (λ z. (end_rule z d.1.role).hardware) int
      ∙ ap (λ r. (end_rule Interrupt r).hardware) d.3) in
      let e = at_position (is_hardware c.connector) c.ends n.0 d.1 n.1 in
      (n.0, e.0, n.1, e.1, e.2)

-- ---- numbers that stand in one list alone

abbrev count_of : ℕ → List ℕ → ℕ
count_of n ns = count_by (λ m. n == m) ns

abbrev numbers : List Irq → List ℕ
numbers is = map (λ a. a.number) is

counted_once : (n : ℕ) (ns : List ℕ) → IsIn n ns → 1 ≤ count_of n ns
counted_once n ns i = let p = place_of n ns i in counted (λ m. n == m) ns p.0 n p.1 (eq-eqb n n refl)

-- as many lists have the number as it stands in all, at most
holders_le : (n : ℕ) (fs : List (List Found)) → count_by (λ f. nat_le 1 (count_of n (numbers (irqs_in f)))) fs ≤ count_of n
    (numbers (irqs fs))
holders_le n [] = omega arith
holders_le n (f ∷ fs) =
    let one : ℕ → ℕ = λ m. cond (n == m) 1 0 in
    let here = count_of n (numbers (irqs_in f)) in
    let split : count_of n (numbers (irqs (f ∷ fs))) ≡ here + count_of n (numbers (irqs fs)) =
    ap (count_of n) (map-append (λ (a : Irq). a.number) (irqs_in f) (irqs fs)) ∙ sum_by-append one (numbers (irqs_in f))
    (numbers (irqs fs)) in
    let step = sum_by-cons (λ f. cond (nat_le 1 (count_of n (numbers (irqs_in f)))) 1 0) f fs in
    omega (arith, split, step, at_most here, holders_le n fs) where
      at_most : (c : ℕ) → cond (nat_le 1 c) 1 0 ≤ c
      at_most c = cond_both (nat_le 1 c) 1 0 (λ z. z ≤ c) (leb-true 1 c) (λ e. omega arith)

-- ---- the settled number

-- the interrupt of a device's end, as it is settled
record IsSettledIrq (f : Found) : Type 0 where
  irq : Irq
  is : irq_at f ≡ Some irq
  meant : irq_of f ≡ Some irq.number

settled_irq : (f : Found) → is_device_event f.joint ≡ true → bad_at_end f ≡ [] → missing_at f ≡ [] → IsSettledIrq f
settled_irq f event good there = by_given f.irq refl where
  bad : bad_value irq_in f.irq ≡ []
  bad = none_right _ (bad_value irq_in f.irq) good

  by_given : (o : Option Given) → f.irq ≡ o → IsSettledIrq f
  by_given None e = search (rules, or_right, and_from, not_so)
  by_given (Some g) e =
      let some =
      so (is_some (meaning irq_in f.irq)) _ (sym (ap (λ o. bad_unless (is_some (meaning irq_in f.irq)) o) e) ∙ bad) in
      let n = is_there (irq_of f) some in
      record {
        irq = irq_from n.0 g;
        is = ap (λ o. option_and_then (λ number. option_map (irq_from number) f.irq) o) n.1
            ∙ ap (λ o. option_map (irq_from n.0) o) e;
        meant = n.1;
      }

from_role : (r : Role) → (end_rule Interrupt r).hardware ≡ true → r ≡ From
from_role From e = refl
from_role To e = cc

module _ (s : Source) (sound : AreNamesSound s) (dotted : AreDotted (hierarchy_of s)) (types : first_type_fault s ≡ None)
    (settings : AreSettingsSound s) where
  abbrev founds : List (List Found)
  founds = founds_in (hierarchy_of s) s (flat_of s)

  -- the interrupt of a connection
  record IsLine (k : ℕ) (c : FlatConnection) : Type 0 where
    ends : List Found
    here : slice_get founds k ≡ Some ends
    irq : Irq
    among : IsIn irq (irqs_in ends)
    is : irq.number ≡ irq_number (settled_of s) k c

  line_of : (k : ℕ) (c : FlatConnection) → slice_get (flat_of s).connections k ≡ Some c → c.connector ≡ Interrupt → IsLine k c
  line_of k c at int =
      let d = device_there s sound dotted types k c at int in
      let f = end_found s (ends_typed s sound dotted types) settings k d.0 c d.1 at d.3 in
      let es = found_on (hierarchy_of s) s (flat_of s) c in
      let event : is_device_event f.found.joint ≡ true = search (rules, from_role) in
      let n = settled_irq f.found event f.good f.present in
      let is : irq_number (settled_of s) k c ≡ n.irq.number = search (rules) in
      record {
        ends = es;
        here = get_map (found_on (hierarchy_of s) s (flat_of s)) (flat_of s).connections k c at;
        irq = n.irq;
        among = in_filter_map irq_at f.found n.irq es f.among n.is;
        is = sym is;
      }

  once : (i : Irq) → IsIn i (irqs founds) → count_of i.number (numbers (irqs founds)) ≤ 1
  once i in_all = grind (arith, not_so, none_in, leb_tells)

  pub one_line : (j k : ℕ) (a b : FlatConnection) → slice_get (flat_of s).connections j ≡ Some a
      → slice_get (flat_of s).connections k ≡ Some b → a.connector ≡ Interrupt → b.connector ≡ Interrupt
      → irq_number (settled_of s) j a ≡ irq_number (settled_of s) k b → j ≡ k
  one_line j k a b p q x y same =
      let u = line_of j a p x in let v = line_of k b q y in
      let n = u.irq.number in
      let most = once u.irq (in_flat_map irqs_in u.ends u.irq founds (in_place u.ends founds j u.here) u.among) in
      let first = counted_once n (numbers (irqs_in u.ends)) (in_map (λ (a : Irq). a.number) u.irq (irqs_in u.ends) u.among) in
      let second = counted_once n (numbers (irqs_in v.ends)) (subst (λ m. IsIn m (numbers (irqs_in v.ends))) (v.is ∙ sym same
      ∙ sym u.is) (in_map (λ (a : Irq). a.number) v.irq (irqs_in v.ends) v.among)) in
      let few = holders_le n founds in
      alone (λ f. nat_le 1 (count_of n (numbers (irqs_in f)))) founds j k u.ends v.ends (omega (arith, few, most)) u.here v.here
      (le-leb 1 (count_of n (numbers (irqs_in u.ends))) first) (le-leb 1 (count_of n (numbers (irqs_in v.ends))) second)
