-- Where no fault of types stands, connections are as they should be.
use Rattle.adl_types.proofs.Common.{AreNamesSound, Bool, End, Fault, Hierarchy, IsIn, List, None, Source, Strung, [], ap, arith, at_word, body, body_faults, cases_eq, connections, end_faults, false, faults_at, faults_below, first_leaf, first_led, first_type_fault, flat_map, hierarchy_of, inl, inr, least-empty, led_faults, led_wire_faults, length, map, may_have, none_in, none_left, none_right, not, refl, suc, top_number, true, type_faults, where_true, wire_faults, wires_of, zero, ℕ, ◌&&◌, ◌++◌, ◌+◌, ◌<◌, ◌∙◌, ◌∷◌, ◌≡◌, ◌≤◌}
use Rattle.adl_hierarchy.proofs.Connections.{connections_stand}
use Rattle.adl_hierarchy.proofs.Finite.{sound_is_finite}
use Rattle.adl_hierarchy.proofs.PartsAt.{body_in}
use Rattle.adl_types.specs.WellTyped.{IsWellTyped}
use Rattle.adl_meaning.specs.Prelude.{Wire}
use Rattle.adl_meaning.specs.declared.connector.Connector.{Connector}
use Rattle.adl_program.proofs.Ends.{lead_leaf}
use Rattle.adl_program.specs.LedEnds.{led_end, led_wire, led_wires}
use Rattle.cam_base.specs.declared.code.Code.TheVariants as code
use Rattle.std.proofs.lemmas.List.Folds.{flat_map-map}

-- the faults of connections are those of what their ends lead to
pub wires_faulty : (h : Hierarchy) (k : ℕ) → flat_map (led_wire_faults h) (led_wires h k) ≡ flat_map (wire_faults h k)
    (wires_of (body h k))
wires_faulty h k = flat_map-map (led_wire_faults h) (led_wire h k) (wires_of (body h k))
    ∙ ap (λ f. flat_map f (wires_of (body h k))) (λ i w. same w i)
  where
    first : (es : List End) → first_led h (map (led_end h k) es) ≡ first_leaf h k es
    first [] = refl
    first (e ∷ es) = lead_leaf h k e

    each : (c : Connector) (e : End) (es : List End)
        → led_faults h c (first_led h (map (led_end h k) es)) (led_end h k e) ≡ end_faults h k c (first_leaf h k es) e
    each c e es = λ i. faults_at c (first es i) (lead_leaf h k e i) e

    same : (w : Wire) → led_wire_faults h (led_wire h k w) ≡ wire_faults h k w
    same w = ap (λ fs. fs ++ where_true (not (may_have w.0 w.1.ends)) (at_word code.EndCount w.1.id))
        (flat_map-map (led_faults h w.0 (first_led h (map (led_end h k) w.1.ends))) (led_end h k) w.1.ends
        ∙ ap (λ f. flat_map f w.1.ends) (λ i e. each w.0 e w.1.ends i))

so : (b c : Bool) (f : Fault) → b ≡ true → where_true (b && not c) f ≡ [] → c ≡ true
so true true f t e = refl
so true false f t e = cc
so false c f t e = cc

none_below : (h : Hierarchy) (n k : ℕ) → faults_below h n ≡ [] → k < n → body_faults h k ≡ []
none_below h zero k e l = absurd (omega arith)
none_below h (suc n) k e l = elim (cases_eq k n) [
  | inl p ↦ ap (body_faults h) p ∙ none_right (faults_below h n) (body_faults h n) e
  | inr p ↦ none_below h n k (none_left (faults_below h n) (body_faults h n) e) (omega (arith, l, p))
]

-- the ends of each connection are as the connector wants them
pub well_typed : (s : Source) → AreNamesSound s → first_type_fault s ≡ None → (x : Strung) → IsIn x (connections (hierarchy_of s))
    → IsWellTyped (hierarchy_of s) x
well_typed s sound none x i =
    let h = hierarchy_of s in
    let there = (connections_stand s sound x).0 i in
    let low : x.inside ≤ length h.bodies = body_in h (sound_is_finite s sound) (top_number h) x.inside x.path
    (omega arith) there.0 in
    let all = none_below h (top_number h + 1) x.inside (least-empty (type_faults s) none) (omega (arith, low)) in
    let wire : wire_faults h x.inside x.wire ≡ [] = none_in (wire_faults h x.inside) _ x.wire (none_left _ _ all) there.1 in
    let each : (e : End) → IsIn e x.wire.1.ends → end_faults h x.inside x.wire.0 (first_leaf h x.inside x.wire.1.ends) e ≡ [] =
    λ e j. none_in _ _ e (none_left _ _ wire) j in
    record {
      kinds = λ e j. so true _ _ refl (none_left _ _ (each e j));
      types = λ e j t. so _ _ _ t (none_right _ _ (each e j));
      counts = so true _ _ refl (none_right _ _ wire);
    }
