-- The walk to the leaves meets them in the order of their paths, and the walk to the connections these in theirs.
use Rattle.front_laws.proofs.Common.{AreNamesSound, Bool, Hierarchy, InOrder, IsBefore, IsIn, IsOnce, IsPathBefore, IsWireBefore, List, Part, Path, Placed, Some, Source, Strung, Wire, [], ap, at_names, body, by_instances, cond, connections, deeper}
use Rattle.front_laws.proofs.Common.{false, flat_map, from_flat_map, from_map, further, hierarchy_of, in_one, inl, inr, is_composite, leaves, leaves_within, length, map, name_of, names_once, outer_first, outside, part_named, placed_by, strung}
use Rattle.front_laws.proofs.Common.{strung_by, subst, suc, top_number, true, wires_of, within_one, zero, ℕ, ◌∷◌, ◌≡◌}
use Rattle.adl_meaning.specs.Joins.{connections_within}
use Rattle.adl_hierarchy.proofs.Repeats.{find_once}
use Rattle.front_laws.proofs.Ordered.{all_before, before_map, order_append, order_flat_map, order_map, order_weaken}

-- the instances of each body differ in name
abbrev AreNamedOnce : Hierarchy → Type 0
AreNamedOnce h = (k : ℕ) → IsOnce (map name_of (body h k).parts)

-- ---- leaves

-- a leaf that an instance stands for has the instance's name in front
begins : (h : Hierarchy) (x : Part) (zs : List Placed) (b : Bool) (y : Placed)
    → IsIn y (cond b (map (outside (name_of x)) zs) (record { path = name_of x ∷ []; part = x } ∷ []))
    → (p : Path) × (name_of x ∷ p ≡ y.path)
begins h x zs true y i = let z = from_map (outside (name_of x)) y zs i in (z.0.path, ap (λ (u : Placed). u.path) z.2)
begins h x zs false y (inl e) = ([], ap (λ (u : Placed). u.path) e)
begins h x zs false y (inr i) = absurd i

abbrev Leafwise : Hierarchy → ℕ → Placed → Placed → Type 0
Leafwise h k x y = IsPathBefore h k x.path y.path

within_part : (h : Hierarchy) (k : ℕ) (x : Part) (zs : List Placed) (b : Bool) → part_named (body h k).parts (name_of x) ≡ Some x
    → InOrder (Leafwise h x.kind) zs
    → InOrder (Leafwise h k) (cond b (map (outside (name_of x)) zs) (record { path = name_of x ∷ []; part = x } ∷ []))
within_part h k x zs true e a = order_map (Leafwise h k) (outside (name_of x)) zs
    (order_weaken (Leafwise h x.kind) (λ y z. Leafwise h k (outside (name_of x) y) (outside (name_of x) z)) zs
    (λ y z i j r. within_one k (name_of x) x y.path z.path e r) a)
within_part h k x zs false e a = (λ y i. absurd i, tt)

leaves_ordered : (h : Hierarchy) → AreNamedOnce h → (n k : ℕ) → InOrder (Leafwise h k) (leaves_within h n k)
leaves_ordered h once zero k = tt
leaves_ordered h once (suc n) k =
    let parts = (body h k).parts in let f = placed_by h (leaves_within h n) in
    order_flat_map (Leafwise h k) f parts (λ x i. within_part h k x (leaves_within h n x.kind) (is_composite h x.kind)
    (find_once name_of parts x (once k) i) (leaves_ordered h once n x.kind))
    (order_weaken (IsBefore parts) (λ x y. (u v : Placed) → IsIn u (f x) → IsIn v (f y) → Leafwise h k u v) parts
    (λ x y i j s u v a b. let p = begins h x (leaves_within h n x.kind) (is_composite h x.kind) u a in
    let q = begins h y (leaves_within h n y.kind) (is_composite h y.kind) v b in let P : Path
    → Type 0 = λ z. IsPathBefore h k z v.path in let Q : Path → Type 0 = λ z. IsPathBefore h k (name_of x ∷ p.0) z in
    subst P p.1 (subst Q q.1 (at_names k (name_of x) (name_of y) p.0 q.0 (before_map name_of parts x y s))))
    (all_before parts))

pub leaves_in_order : (s : Source) → AreNamesSound s → InOrder (Leafwise (hierarchy_of s) (top_number (hierarchy_of s)))
    (leaves (hierarchy_of s))
leaves_in_order s sound = leaves_ordered (hierarchy_of s) (names_once s sound) (length (hierarchy_of s).bodies)
    (top_number (hierarchy_of s))

-- ---- connections

abbrev Wirewise : Hierarchy → ℕ → Strung → Strung → Type 0
Wirewise h k x y = IsWireBefore h k x.path x.wire.1.id.name y.path y.wire.1.id.name

own_ordered : (h : Hierarchy) (k : ℕ) → InOrder (Wirewise h k) (map (strung k) (wires_of (body h k)))
own_ordered h k =
    let ws = wires_of (body h k) in
    order_map (Wirewise h k) (strung k) ws (order_weaken (IsBefore ws) (λ v w. Wirewise h k (strung k v) (strung k w)) ws
    (λ v w i j s. in_one k v.1.id.name w.1.id.name (before_map (λ (z : Wire). z.1.id.name) ws v w s)) (all_before ws))

-- a connection in an instance has the instance's name in front
further_begins : (x : Part) (zs : List Strung) (y : Strung) → IsIn y (map (further (name_of x)) zs)
    → (p : Path) × (name_of x ∷ p ≡ y.path)
further_begins x zs y i = let z = from_map (further (name_of x)) y zs i in (z.0.path, ap (λ (u : Strung). u.path) z.2)

wires_ordered : (h : Hierarchy) → AreNamedOnce h → (n k : ℕ) → InOrder (Wirewise h k) (connections_within h n k)
wires_ordered h once zero k = own_ordered h k
wires_ordered h once (suc n) k =
    let parts = (body h k).parts in let f = strung_by (connections_within h n) in
    order_append (Wirewise h k) (map (strung k) (wires_of (body h k))) (flat_map f parts) (own_ordered h k)
    (order_flat_map (Wirewise h k) f parts
    (λ x i. order_map (Wirewise h k) (further (name_of x)) (connections_within h n x.kind)
    (order_weaken (Wirewise h x.kind) (λ y z. Wirewise h k (further (name_of x) y) (further (name_of x) z))
    (connections_within h n x.kind)
    (λ y z a b r. deeper k (name_of x) y.wire.1.id.name z.wire.1.id.name x y.path z.path (find_once name_of parts x (once k) i) r)
    (wires_ordered h once n x.kind)))
    (order_weaken (IsBefore parts) (λ x y. (u v : Strung) → IsIn u (f x) → IsIn v (f y) → Wirewise h k u v) parts
    (λ x y i j s u v a b.
    let p = further_begins x (connections_within h n x.kind) u a in
    let q = further_begins y (connections_within h n y.kind) v b in
    let P : Path → Type 0 = λ z. IsWireBefore h k z u.wire.1.id.name v.path v.wire.1.id.name in
    let Q : Path → Type 0 = λ z. IsWireBefore h k (name_of x ∷ p.0) u.wire.1.id.name z v.wire.1.id.name in
    subst P p.1 (subst Q q.1 (by_instances k (name_of x) (name_of y) u.wire.1.id.name v.wire.1.id.name p.0 q.0
    (before_map name_of parts x y s)))) (all_before parts)))
    (λ u v a b.
    let w = from_map (strung k) u (wires_of (body h k)) a in let y = from_flat_map f v parts b in
    let q = further_begins y.0 (connections_within h n y.0.kind) v y.2 in
    let P : Path → Type 0 = λ z. IsWireBefore h k z u.wire.1.id.name v.path v.wire.1.id.name in
    let Q : Path → Type 0 = λ z. IsWireBefore h k [] u.wire.1.id.name z v.wire.1.id.name in
    subst P (ap (λ (z : Strung). z.path) w.2) (subst Q q.1 (outer_first k u.wire.1.id.name v.wire.1.id.name (name_of y.0) q.0)))

pub wires_in_order : (s : Source) → AreNamesSound s → InOrder (Wirewise (hierarchy_of s) (top_number (hierarchy_of s)))
    (connections (hierarchy_of s))
wires_in_order s sound = wires_ordered (hierarchy_of s) (names_once s sound) (length (hierarchy_of s).bodies)
    (top_number (hierarchy_of s))
