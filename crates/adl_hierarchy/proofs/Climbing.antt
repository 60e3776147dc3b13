-- A search downwards finds an interface of a leaf exactly where the interface climbs up to the port.
use Rattle.adl_hierarchy.proofs.Common.{AreNamesSound, Bool, Climbs, Composition, Export, Hierarchy, IsIn, IsLeaf, IsOnce, Known, Name, None, Option, Part, Path, Reached, Some, Source, [], ap, arith, behind, body, bytes_eq, bytes_eq-Decides}
use Rattle.adl_hierarchy.proofs.Common.{cond, export_named, exports_in, exports_of, false, found, hierarchy_of, is_composite, is_some, known_in, length, map, map_some, misfits_in_composition, name_of, option_and_then, option_and_then_some}
use Rattle.adl_hierarchy.proofs.Common.{option_map, option_map_or, part_named, port_in, reached, reached_by, reached_within, refl, rules, subst, suc, sym, true, zero, ℕ, ◌∙◌, ◌∷◌, ◌≡◌, ◌≤◌}
use Rattle.adl_hierarchy.proofs.Exports.{no_misfit, targets_once}
use Rattle.adl_hierarchy.proofs.Finite.{sound_is_finite}
use Rattle.adl_hierarchy.proofs.Leaves.{StandsIn}
use Rattle.adl_hierarchy.proofs.PartsAt.{named_in, part_behind, first_on, path_short}
use Rattle.adl_hierarchy.proofs.Repeats.{find_once}

-- ---- what is found climbs

pub record Found (h : Hierarchy) (k : ℕ) (port : Name × Name) (r : Reached) : Type 0 where
  pub rest : Path
  pub path : r.path ≡ port.0 ∷ rest
  pub stands : StandsIn h k (record { path = r.path; part = r.part })
  pub climbs : Climbs h k port.0 rest r.interface port.1

found_by : (h : Hierarchy) (f : ℕ → Name × Name → Option Reached) (k : ℕ) (port : Name × Name) (x : Part) (r : Reached)
    → part_named (body h k).parts port.0 ≡ Some x → ((p : Name × Name) (q : Reached) → f x.kind p ≡ Some q → Found h x.kind p q)
    → reached_by h f port.1 x ≡ Some r → Found h k port r
found_by h f k port x r e ih t = by_kind (is_composite h x.kind) refl t
  where
    by_kind : (b : Bool) → is_composite h x.kind ≡ b → cond b
        (option_map (behind (name_of x)) (option_and_then (f x.kind) (option_and_then (λ (y : Export). port_in y.words)
        (export_named (exports_of (body h x.kind)) port.1))))
        (Some (record { path = name_of x ∷ []; part = x; interface = port.1 })) ≡ Some r → Found h k port r
    by_kind true c t =
        let m =
        map_some (behind (name_of x)) (option_and_then (f x.kind) (option_and_then (λ (y : Export). port_in y.words)
        (export_named (exports_of (body h x.kind)) port.1))) r t in
        let name = (named_in (body h k).parts port.0 x e).1 in
        subst (λ z. Found h k port z) m.2 (option_and_then_some (f x.kind) (option_and_then (λ (y : Export). port_in y.words)
        (export_named (exports_of (body h x.kind)) port.1)) m.0 m.1 (λ p e1 e2.
        option_and_then_some (λ (y : Export). port_in y.words) (export_named (exports_of (body h x.kind)) port.1) p e1 (λ y e3 e4.
        let inner = ih p m.0 e2 in
        let y' = found (λ (y : Export). bytes_eq port.1 y.target.name) (exports_of (body h x.kind)) y e3 in
        record {
          rest = p.0 ∷ inner.rest;
          path = ap (λ z. z ∷ m.0.path) name ∙ ap (λ z. port.0 ∷ z) inner.path;
          stands = (
            part_behind h k (name_of x) m.0.path x m.0.part (ap (part_named (body h k).parts) name ∙ e) inner.stands.0,
            inner.stands.1,
          );
          climbs = (
            x,
            e,
            p.1,
            inner.climbs,
            record { by = y; stands = y'.0; inner = e4; outer = sym ((bytes_eq-Decides port.1 y.target.name).0 y'.1) },
          );
        })))
    by_kind false c t =
        let here : Reached = record { path = name_of x ∷ []; part = x; interface = port.1 } in
        let name = (named_in (body h k).parts port.0 x e).1 in
        let s : here ≡ r = cc in
        search (rules)

pub found_climbs : (h : Hierarchy) (n k : ℕ) (port : Name × Name) (r : Reached) → reached_within h n k port ≡ Some r
    → Found h k port r
found_climbs h zero k port r e = cc
found_climbs h (suc n) k port r e =
    option_and_then_some (reached_by h (reached_within h n) port.1) (part_named (body h k).parts port.0) r e (λ x e1 e2.
    found_by h (reached_within h n) k port x r e1 (λ p q t. found_climbs h n x.kind p q t) e2)

-- ---- what climbs is found

-- exports stand once by target
abbrev pub AreExportsOnce : Hierarchy → Type 0
AreExportsOnce h = (k : ℕ) → IsOnce (map (λ x. x.target.name) (exports_of (body h k)))

pub exports_once : (s : Source) → AreNamesSound s → AreExportsOnce (hierarchy_of s)
exports_once s sound k = by_case (body (hierarchy_of s) k).composition (no_misfit s sound k)
  where
    by_case : (o : Option Composition)
        → ((c : Composition) → o ≡ Some c → (owner : Option Known) × (misfits_in_composition (known_in s) owner c ≡ []))
        → IsOnce (map (λ (x : Export). x.target.name) (option_map_or exports_in o []))
    by_case None f = tt
    by_case (Some c) f = let m = f c refl in targets_once (known_in s) m.0 c m.1

has_composition : (o : Option Composition) (x : Export) → IsIn x (option_map_or exports_in o []) → is_some o ≡ true
has_composition None x i = absurd i
has_composition (Some c) x i = refl

-- the port is found where the search ends
record Finds (h : Hierarchy) (n : ℕ) (k : ℕ) (port : Name × Name) (p : Path) (i : Name) : Type 0 where
  reached : Reached
  found : reached_within h n k port ≡ Some reached
  path : reached.path ≡ p
  interface : reached.interface ≡ i

climbs_found : (h : Hierarchy) → AreExportsOnce h → (n k : ℕ) (c : Name) (p : Path) (i j : Name) → length (c ∷ p) ≤ n
    → IsLeaf h k (c ∷ p) → Climbs h k c p i j → Finds h n k (c, j) (c ∷ p) i
climbs_found h a zero k c p i j l leaf w = absurd (omega arith)
climbs_found h a (suc n) k c [] i j l leaf w =
    let y = first_on h k c [] leaf.0 leaf.1 in
    let x = y.0 in
    let kind : x.kind ≡ leaf.0 = let e = y.2 in cc in
    let r : Reached = record { path = name_of x ∷ []; part = x; interface = j } in
    let inner : Option Reached =
    option_map (behind (name_of x)) (option_and_then (reached_within h n x.kind)
    (option_and_then (λ (y : Export). port_in y.words) (export_named (exports_of (body h x.kind)) j))) in
    record {
      reached = r;
      found = ap (λ o. option_and_then (reached_by h (reached_within h n) j) o) y.1 ∙ ap (λ b. cond b inner (Some r))
          (ap (is_composite h) kind ∙ leaf.2);
      path = ap (λ z. z ∷ []) (named_in (body h k).parts c x y.1).1;
      interface = sym w;
    }
climbs_found h a (suc n) k c (d ∷ q) i j l leaf w =
    let x = w.0 in
    let ex = w.4 in
    let inside : IsLeaf h x.kind (d ∷ q) = search (rules) in
    let r = climbs_found h a n x.kind d q i w.2 (omega arith) inside w.3 in
    let named : export_named (exports_of (body h x.kind)) j ≡ Some ex.by =
    ap (export_named (exports_of (body h x.kind))) (sym ex.outer) ∙ find_once (λ (y : Export). y.target.name)
    (exports_of (body h x.kind)) ex.by (a x.kind) ex.stands in
    let here : Option Reached = Some (record { path = name_of x ∷ []; part = x; interface = j }) in
    let F : Option (Name × Name) → Option Reached =
    λ o. option_map (behind (name_of x)) (option_and_then (reached_within h n x.kind) o) in
    let B : Option Reached → Option Reached = λ o. option_map (behind (name_of x)) o in
    record {
      reached = behind (name_of x) r.reached;
      found = search (rules, has_composition);
      path = ap (λ z. z ∷ r.reached.path) (named_in (body h k).parts c x w.1).1 ∙ ap (λ z. c ∷ z) r.path;
      interface = r.interface;
    }

pub climbs_reached : (s : Source) → AreNamesSound s → (k : ℕ) (c : Name) (p : Path) (i j : Name)
    → k ≤ length (hierarchy_of s).bodies → IsLeaf (hierarchy_of s) k (c ∷ p) → Climbs (hierarchy_of s) k c p i j
    → (r : Reached) × (reached (hierarchy_of s) k (c, j) ≡ Some r) × (r.path ≡ c ∷ p) × (r.interface ≡ i)
climbs_reached s sound k c p i j l leaf w =
    let h = hierarchy_of s in
    let f = climbs_found h (exports_once s sound) (length h.bodies) k c p i j (path_short h (sound_is_finite s sound) k leaf.0
    (c ∷ p) l leaf.1) leaf w in
    (f.reached, f.found, f.path, f.interface)
