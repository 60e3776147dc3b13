-- Settled priorities, badges and interrupts are small numbers.
use Rattle.spec_laws.proofs.Common.{EndSetting, EndSettings, FlatConnection, FlatEnd, Found, From, IsIn, LeafFound, List, None, Option, Role, Some, Source, To, [], and_parts, ap, arith, badge_kind}
use Rattle.spec_laws.proofs.Common.{behind, cond_both, device_place, digits_value, end_setting, end_settings, flat_of, found_of, found_on, from_filter_map, from_get_map, hierarchy_of, in_get, inl, inr}
use Rattle.spec_laws.proofs.Common.{irq_in, irq_number, irq_of, is_badge_text, leaf_setting, leb-true, length, map_some, meaning, meant, nat_le, option_and_then, option_map_or, positioned}
use Rattle.spec_laws.proofs.Common.{positioned_after, priority_in, refl, rules, setting_of, settled_badge, settled_of, slice_get, subst, suc, sym, unwrap_or, within, ℕ, ◌&&◌, ◌+◌, ◌<◌, ◌^◌, ◌∙◌, ◌∷◌, ◌≡◌, ◌≤◌}
use Rattle.adl_ast.specs.declared.value.ValueKind.{ValueKind, Number, Text}
use Rattle.adl_meaning.specs.Values.{Given}
use Rattle.adl_settings.specs.EndMeaning.{badge_at}
use Rattle.spec_laws.proofs.SettledEnds.{setting_from}

within_most : (greatest n : ℕ) → unwrap_or (within 0 greatest n) 0 ≤ greatest
within_most greatest n = cond_both (nat_le 0 n && nat_le n greatest) (Some n) None (λ z. unwrap_or z 0 ≤ greatest)
    (λ e. leb-true n greatest (and_parts (nat_le 0 n) (nat_le n greatest) e).1) (λ e. omega arith)

-- ---- priorities

priority_most : (o : Option Given) → unwrap_or (meant priority_in 254 o) 0 ≤ 255
priority_most None = omega arith
priority_most (Some g) = search (rules, within_most)

priority_fits : (f : LeafFound) → (leaf_setting f).priority ≤ 255
priority_fits f = cond_both f.leaf.hardware 0 (unwrap_or (meant priority_in 254 f.priority) 0) (λ z. z ≤ 255) (λ e. omega arith)
    (λ e. priority_most f.priority)

pub priorities_fit : (s : Source) (leaf : ℕ) → option_map_or (λ z. z.priority) (slice_get (settled_of s).leaves leaf) 0 ≤ 255
priorities_fit s leaf = search (rules, from_get_map, priority_fits)

-- ---- interrupts

irq_most : (o : Option Given) → unwrap_or (meaning irq_in o) 0 ≤ 1023
irq_most None = omega arith
irq_most (Some g) = search (rules, within_most)

pub numbers_small : (s : Source) (k : ℕ) (c : FlatConnection) → irq_number (settled_of s) k c < 2 ^ 64
numbers_small s k c = by_place (device_place c.connector c.ends) where
  by_setting : (n : ℕ) (o : Option EndSetting) → setting_of (settled_of s) k n ≡ o → option_map_or (λ z. z.irq) o 0 < 2 ^ 64
  by_setting n None e = omega arith
  by_setting n (Some x) e =
      let f = setting_from s k n x e in
      let is : x.irq ≡ unwrap_or (irq_of f.0) 0 = ap (λ (z : EndSetting). z.irq) (sym f.1) in
      omega (arith, irq_most f.0.irq, is)

  by_place : (o : Option ℕ) → option_map_or (λ z. z.irq) (option_and_then (setting_of (settled_of s) k) o) 0 < 2 ^ 64
  by_place None = omega arith
  by_place (Some n) = by_setting n (setting_of (settled_of s) k n) refl

-- ---- badges

kind_most : (v : ValueKind) → unwrap_or (badge_kind v) 0 ≤ 268435455
kind_most (Number n) = within_most 268435455 n
kind_most (Text t) = cond_both (is_badge_text t) (within 0 268435455 (digits_value 10 t)) None (λ z. unwrap_or z 0 ≤ 268435455)
    (λ e. within_most 268435455 (digits_value 10 t)) (λ e. omega arith)
kind_most _ = omega arith

badge_most : (f : Found) → badge_at f ≤ f.joint.position + 268435455
badge_most f = search (rules, cond_both, kind_most)

position_most : (p : ℕ) (es : List FlatEnd) (x : ℕ × FlatEnd) → IsIn x (positioned_after p es) → x.0 ≤ p + length es
position_most p [] x i = absurd i
position_most p (e ∷ es) x (inl same) = let is : p + 1 ≡ x.0 = ap (λ (z : ℕ × FlatEnd). z.0) same in omega (arith, is)
position_most p (e ∷ es) x (inr i) = by_role e.role (position_most (behind p e.role) es x i) where
  by_role : (r : Role) → x.0 ≤ behind p r + length es → x.0 ≤ p + suc (length es)
  by_role From l = omega (arith, l)
  by_role To l = omega (arith, l)

position_is : (s : Source) (c : FlatConnection) (x : ℕ × FlatEnd) (f : Found)
    → found_of (hierarchy_of s) s (flat_of s) c x ≡ Some f → f.joint.position ≡ x.0
position_is s c x f e = search (rules, map_some)

pub badges_small : (s : Source) → ((k : ℕ) (c : FlatConnection) → slice_get (flat_of s).connections k ≡ Some c
    → length c.ends < 2 ^ 32) → (k n : ℕ) → settled_badge (settled_of s) k n < 2 ^ 64
badges_small s short k n = by_connection (slice_get (settled_of s).connections k) refl where
  by_found : (fs : List Found) (c : FlatConnection) → slice_get (flat_of s).connections k ≡ Some c
      → found_on (hierarchy_of s) s (flat_of s) c ≡ fs → (o : Option EndSetting) → slice_get (end_settings fs).ends n ≡ o
      → option_map_or (λ z. z.badge) o 0 < 2 ^ 64
  by_found fs c at are None e = omega arith
  by_found fs c at are (Some x) e =
      let f = from_get_map end_setting fs n x e in
      let y = from_filter_map (found_of (hierarchy_of s) s (flat_of s) c) f.0 (positioned c.ends)
      (subst (λ z. IsIn f.0 z) (sym are) (in_get fs n f.0 f.1)) in
      let is : x.badge ≡ badge_at f.0 = ap (λ (z : EndSetting). z.badge) (sym f.2) in
      omega (arith, position_is s c y.0 f.0 y.2, position_most 0 c.ends y.0 y.1, badge_most f.0, is, short k c at)

  by_connection : (o : Option EndSettings) → slice_get (settled_of s).connections k ≡ o
      → option_map_or (λ z. z.badge) (option_and_then (λ z. slice_get z.ends n) o) 0 < 2 ^ 64
  by_connection None e = omega arith
  by_connection (Some z) e = grind (arith, from_get_map, by_found)
