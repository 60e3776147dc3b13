-- Totals of lists that are put together, and the totals of a body from those of its instances.
use Rattle.adl_flatten.proofs.Common.{Bool, Hierarchy, IsFinite, IsIn, List, Part, Path, Placed, Strung, Totals, Wire, [], add_part, ap, append-nil, append_assoc, arith, body, body_total, both, cond, connections_step, ends_of, false, flat_map, flat_map-append, flat_map-map, fold, further, get_or, inl, inr, is_composite, leaves_in, leaves_step, length, length-append, length-map, longest, map, max, name_of, ne_eqb, outer, outside, own_total, part_total, placed_by, refl, saturated, strung, strung_by, sym, totals_in, totals_of, true, wires_of, ℕ, ◌++◌, ◌+◌, ◌∙◌, ◌∷◌, ◌≡◌, ◌≤◌}
use Rattle.adl_flatten.specs.TotalsOf.{led_total}
use Rattle.adl_meaning.specs.Joins.{connections_in}
use Rattle.adl_program.specs.LedEnds.{LedWire, led_wire, led_wires}

-- ---- paths and ends

abbrev paths : List Placed → List Path
paths ps = map (λ x. x.path) ps

longest-append : (ps qs : List Placed) → longest (paths (ps ++ qs)) ≡ max (longest (paths ps)) (longest (paths qs))
longest-append [] qs = omega arith
longest-append (x ∷ ps) qs = omega (arith, longest-append ps qs)

longest-outside : (n : List ℕ) (x : Placed) (ps : List Placed)
    → longest (paths (map (outside n) (x ∷ ps))) ≡ longest (paths (x ∷ ps)) + 1
longest-outside n x [] = omega arith
longest-outside n x (y ∷ ps) = omega (arith, longest-outside n y ps)

-- ---- totals

both_are : (ps qs : List Placed) (ks ls : List Strung)
    → both (totals_of ps ks) (totals_of qs ls) ≡ totals_of (ps ++ qs) (ks ++ ls)
both_are ps qs ks ls =
    let n : saturated (saturated (length ps) + saturated (length qs)) ≡ saturated (length (ps ++ qs)) =
    omega (arith, length-append ps qs) in
    let d : max (saturated (longest (paths ps))) (saturated (longest (paths qs))) ≡ saturated (longest (paths (ps ++ qs))) =
    omega (arith, longest-append ps qs) in
    let c : saturated (saturated (length ks) + saturated (length ls)) ≡ saturated (length (ks ++ ls)) =
    omega (arith, length-append ks ls) in
    let e : saturated (saturated (length (ends_of ks)) + saturated (length (ends_of ls))) ≡ saturated
    (length (ends_of (ks ++ ls))) =
    omega (
      arith,
      ap (λ z. length z) (flat_map-append (λ (x : Strung). x.wire.1.ends) ks ls),
      length-append (ends_of ks)
          (ends_of ls),
    ) in
    λ i. record { leaves = n i; depth = d i; connections = c i; ends = e i }

-- a name in front changes no totals of connections
named : (n : List ℕ) (ps : List Placed) (ks : List Strung) → totals_of ps ks ≡ totals_of ps (map (further n) ks)
named n ps ks = λ i. record {
  leaves = saturated (length ps);
  depth = saturated (longest (paths ps));
  connections = saturated (sym (length-map ks (further n)) i);
  ends = saturated (length (sym (flat_map-map (λ (x : Strung). x.wire.1.ends) (further n) ks) i));
}

outer_are : (n : List ℕ) (ps : List Placed) (ks : List Strung) → outer (totals_of ps ks) ≡ totals_of (map (outside n) ps)
    (map (further n) ks)
outer_are n [] ks = named n [] ks
outer_are n (x ∷ ps) ks =
    let t = totals_of (x ∷ ps) ks in
    let l : saturated (length (x ∷ ps)) ≡ saturated (length (map (outside n) (x ∷ ps))) =
    omega (arith, length-map ps (outside n)) in
    let d : saturated (saturated (longest (paths (x ∷ ps))) + 1) ≡ saturated (longest (paths (map (outside n) (x ∷ ps)))) =
    omega (arith, longest-outside n x ps) in
    ap (λ b. cond b t (record t { depth = saturated (t.depth + 1) })) (ne_eqb t.leaves 0 (λ z. omega arith))
    ∙ (λ i. record t { leaves = l i; depth = d i }) ∙ named n (map (outside n) (x ∷ ps)) ks

own_is : (k : ℕ) (ws : List Wire) → own_total ws ≡ totals_of [] (map (strung k) ws)
own_is k ws = λ i. record {
  leaves = 0;
  depth = 0;
  connections = saturated (sym (length-map ws (strung k)) i);
  ends = saturated (length (sym (flat_map-map (λ (x : Strung). x.wire.1.ends) (strung k) ws) i));
}

part_is : (h : Hierarchy) (all : List Totals) (x : Part) → ((t : Totals) → get_or all x.kind t ≡ totals_in h x.kind)
    → part_total h all x ≡ totals_of (placed_by h (leaves_in h) x) (strung_by (connections_in h) x)
part_is h all x known = ap (λ t. cond (is_composite h x.kind) (outer t) (record t { leaves = 1; depth = 1 })) (known _)
    ∙ by_test (is_composite h x.kind)
  where
    by_test : (b : Bool) → cond b (outer (totals_in h x.kind)) (record (totals_in h x.kind) { leaves = 1; depth = 1 })
        ≡ totals_of (cond b (map (outside (name_of x)) (leaves_in h x.kind)) (record { path = name_of x ∷ []; part = x } ∷ []))
        (map (further (name_of x)) (connections_in h x.kind))
    by_test true = outer_are (name_of x) (leaves_in h x.kind) (connections_in h x.kind)
    by_test false = named (name_of x) (record { path = name_of x ∷ []; part = x } ∷ []) (connections_in h x.kind)

-- ---- bodies

abbrev pub IsTotal : Hierarchy → ℕ → Totals → Type 0
IsTotal h k t = t ≡ totals_in h k

parts_are : (h : Hierarchy) (all : List Totals) (xs : List Part)
    → ((x : Part) → IsIn x xs → (t : Totals) → get_or all x.kind t ≡ totals_in h x.kind) → (ps : List Placed) (ks : List Strung)
    → fold (add_part h all) (totals_of ps ks) xs ≡ totals_of (ps ++ flat_map (placed_by h (leaves_in h)) xs)
    (ks ++ flat_map (strung_by (connections_in h)) xs)
parts_are h all [] known ps ks = λ i. totals_of (sym (append-nil ps) i) (sym (append-nil ks) i)
parts_are h all (x ∷ xs) known ps ks =
    let qs = placed_by h (leaves_in h) x in
    let ls = strung_by (connections_in h) x in
    ap (λ t. fold (add_part h all) t xs) (ap (both (totals_of ps ks)) (part_is h all x (known x (inl refl)))
    ∙ both_are ps qs ks ls) ∙ parts_are h all xs (λ y m. known y (inr m)) (ps ++ qs) (ks ++ ls)
    ∙ λ i. totals_of (append_assoc ps qs (flat_map (placed_by h (leaves_in h)) xs) i)
    (append_assoc ks ls (flat_map (strung_by (connections_in h)) xs) i)

pub body_is : (h : Hierarchy) → IsFinite h → (k : ℕ) → k ≤ length h.bodies → (all : List Totals)
    → ((x : Part) → IsIn x (body h k).parts → (t : Totals) → get_or all x.kind t ≡ totals_in h x.kind)
    → body_total h all k ≡ totals_in h k
body_is h f k l all known =
    ap (λ t. fold (add_part h all) t (body h k).parts) (own_is k (wires_of (body h k))) ∙ parts_are h all (body h k).parts known
    [] (map (strung k) (wires_of (body h k)))
    ∙ λ i. totals_of (sym (leaves_step h f k l) i) (sym (connections_step h f k l) i)

-- ---- connections whose ends tell where they lead

pub led_total_is : (h : Hierarchy) (k : ℕ) → led_total (led_wires h k) ≡ own_total (wires_of (body h k))
led_total_is h k =
    let ws = wires_of (body h k) in
    let ends = flat_map-map (λ (w : LedWire). w.wire.1.ends) (led_wire h k) ws in
    λ i. record {
      leaves = 0;
      depth = 0;
      connections = saturated (length-map ws (led_wire h k) i);
      ends = saturated (length (ends i));
    }
