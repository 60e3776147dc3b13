-- The walks over a finite hierarchy, without their bounds: a bound past the depth changes nothing.
use Rattle.adl_hierarchy.proofs.Common.{Bool, Hierarchy, IsFinite, IsIn, List, Name, None, Option, Part, Placed, Reached, Some, [], ap, append-nil, arith, body, bytes_eq, cond, connections_within, empty}
use Rattle.adl_hierarchy.proofs.Common.{false, flat_map, flat_map_same, found, further, graph, in_map, inr, is_composite, leaves_in, leaves_within, length, map, name_of, option_and_then}
use Rattle.adl_hierarchy.proofs.Common.{outside, part_named, placed_by, reached, reached_by, reached_within, refl, rules, strung, strung_by, suc, sym, true, wires_of, zero, ℕ, ◌++◌, ◌∙◌, ◌∷◌, ◌≡◌, ◌≤◌}
use Rattle.adl_meaning.specs.Prelude.{Walk, has, inner_of}
use Rattle.adl_meaning.specs.Joins.{connections_in}
use Rattle.adl_hierarchy.proofs.Walks.{walks_short}
use Rattle.adl_hierarchy.proofs.Bodies.{inner_of_body}
use Rattle.adl_hierarchy.proofs.Finite.{graph_size}
use Rattle.adl_hierarchy.proofs.Lists.{has_in}

-- ---- depth

-- the type of an instance is listed
pub listed : (h : Hierarchy) (k : ℕ) (x : Part) → k ≤ length h.bodies → IsIn x (body h k).parts
    → has (inner_of (graph h) k) x.kind ≡ true
listed h k x l i = ap (λ ts. has ts x.kind) (inner_of_body h k l) ∙ has_in x.kind (map (λ (x : Part). x.kind) (body h k).parts)
    (in_map (λ (x : Part). x.kind) x (body h k).parts i)

pub kind_in : (h : Hierarchy) → IsFinite h → (k : ℕ) (x : Part) → k ≤ length h.bodies → IsIn x (body h k).parts
    → x.kind ≤ length h.bodies
kind_in h f k x l i = grind (arith, graph_size, listed)

-- no walk from body k has more than n steps
abbrev pub IsShallow : Hierarchy → ℕ → ℕ → Type 0
IsShallow h k n = (m b : ℕ) → Walk (graph h) k b m → m ≤ n

pub shallow : (h : Hierarchy) → IsFinite h → (k : ℕ) → k ≤ length h.bodies → IsShallow h k (length h.bodies)
shallow h f k l m b w = search (rules, graph_size, walks_short)

pub below : (h : Hierarchy) (k n : ℕ) (x : Part) → k ≤ length h.bodies → IsIn x (body h k).parts → IsShallow h k (suc n)
    → IsShallow h x.kind n
below h k n x l i s m b w = let d : suc m ≤ suc n = s (suc m) b (x.kind, listed h k x l i, w) in omega (arith, d)

-- a body from which no walk leads has no instances
pub no_parts : (h : Hierarchy) (k : ℕ) → k ≤ length h.bodies → IsShallow h k 0 → (body h k).parts ≡ []
no_parts h k l s = empty (body h k).parts (λ x i. let d : 1 ≤ 0 = s 1 x.kind (x.kind, listed h k x l i, refl) in
    absurd (omega (arith, d)))

-- ---- leaves

placed_same : (h : Hierarchy) (f g : ℕ → List Placed) (x : Part) → f x.kind ≡ g x.kind → placed_by h f x ≡ placed_by h g x
placed_same h f g x e =
    ap (λ ys. cond (is_composite h x.kind) (map (outside (name_of x)) ys) (record { path = name_of x ∷ []; part = x } ∷ [])) e

leaves_stable : (h : Hierarchy) → IsFinite h → (n k : ℕ) → k ≤ length h.bodies → IsShallow h k n
    → leaves_within h n k ≡ leaves_within h (suc n) k
leaves_stable h f zero k l s = ap (λ xs. flat_map (placed_by h (leaves_within h 0)) xs) (sym (no_parts h k l s))
leaves_stable h f (suc n) k l s =
    flat_map_same (placed_by h (leaves_within h n)) (placed_by h (leaves_within h (suc n))) (body h k).parts
    (λ x i. placed_same h (leaves_within h n) (leaves_within h (suc n)) x (leaves_stable h f n x.kind (kind_in h f k x l i)
    (below h k n x l i s)))

-- the leaves in a body, from those of its instances
pub leaves_step : (h : Hierarchy) → IsFinite h → (k : ℕ) → k ≤ length h.bodies
    → leaves_in h k ≡ flat_map (placed_by h (leaves_in h)) (body h k).parts
leaves_step h f k l = leaves_stable h f (length h.bodies) k l (shallow h f k l)

-- ---- connections

connections_stable : (h : Hierarchy) → IsFinite h → (n k : ℕ) → k ≤ length h.bodies → IsShallow h k n
    → connections_within h n k ≡ connections_within h (suc n) k
connections_stable h f zero k l s = search (rules, append-nil, no_parts)
connections_stable h f (suc n) k l s =
    ap (λ ys. map (strung k) (wires_of (body h k)) ++ ys)
    (flat_map_same (strung_by (connections_within h n)) (strung_by (connections_within h (suc n))) (body h k).parts
    (λ x i. ap (λ ys. map (further (name_of x)) ys) (connections_stable h f n x.kind (kind_in h f k x l i)
    (below h k n x l i s))))

-- the connections in a body: its own, and those of its instances
pub connections_step : (h : Hierarchy) → IsFinite h → (k : ℕ) → k ≤ length h.bodies
    → connections_in h k ≡ map (strung k) (wires_of (body h k)) ++ flat_map (strung_by (connections_in h)) (body h k).parts
connections_step h f k l = connections_stable h f (length h.bodies) k l (shallow h f k l)

-- ---- interfaces

pub part_in : (h : Hierarchy) (k : ℕ) (n : Name) (x : Part) → part_named (body h k).parts n ≡ Some x → IsIn x (body h k).parts
part_in h k n x e = (found (λ (x : Part). bytes_eq n x.instance.id.name) (body h k).parts x e).0

and_then_same : {X Y : Type 0} (f g : X → Option Y) (o : Option X) → ((x : X) → o ≡ Some x → f x ≡ g x)
    → option_and_then f o ≡ option_and_then g o
and_then_same f g None e = refl
and_then_same f g (Some x) e = e x refl

reached_same : (h : Hierarchy) (f g : ℕ → Name × Name → Option Reached) (j : Name) (x : Part)
    → ((port : Name × Name) → f x.kind port ≡ g x.kind port) → reached_by h f j x ≡ reached_by h g j x
reached_same h f g j x e = search (rules, and_then_same)

reached_stable : (h : Hierarchy) → IsFinite h → (n k : ℕ) (port : Name × Name) → k ≤ length h.bodies → IsShallow h k n
    → reached_within h n k port ≡ reached_within h (suc n) k port
reached_stable h f zero k port l s = ap (λ xs. option_and_then (reached_by h (reached_within h 0) port.1) (part_named xs port.0))
    (sym (no_parts h k l s))
reached_stable h f (suc n) k port l s =
    and_then_same (reached_by h (reached_within h n) port.1) (reached_by h (reached_within h (suc n)) port.1)
    (part_named (body h k).parts port.0) (λ x e. let i = part_in h k port.0 x e in
    reached_same h (reached_within h n) (reached_within h (suc n)) port.1 x
    (λ p. reached_stable h f n x.kind p (kind_in h f k x l i) (below h k n x l i s)))

-- the interface that a port means in a body, from those of the instance's component
pub reached_step : (h : Hierarchy) → IsFinite h → (k : ℕ) → k ≤ length h.bodies → (port : Name × Name)
    → reached h k port ≡ option_and_then (reached_by h (reached h) port.1) (part_named (body h k).parts port.0)
reached_step h f k l port = reached_stable h f (length h.bodies) k port l (shallow h f k l)

-- ---- a bound past the length of each path
