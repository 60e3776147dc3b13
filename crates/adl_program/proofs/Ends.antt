-- What an end means where it leads.
use Rattle.adl_program.proofs.Common.{Component, End, Hierarchy, Id, Lead, List, Name, None, Option, PartAt, Port, Reached, Some, ap, body, is_interface, lead_by, lead_of, lead_to, leaf_by, leaf_from, leaf_in, length, option_and_then, option_map, option_map_or, part_from, place_by, port_by, port_in, port_reached, reached, reached_by, refl, slice_get, suc, sym, zero, ℕ, ◌∙◌, ◌≡◌}
use Rattle.adl_meaning.specs.Joins.{reached_within}
use Rattle.adl_meaning.specs.Prelude.{is_device}
use Rattle.adl_program.specs.LeafInterfaces.{as_leaf, leaf_of}
use Rattle.adl_program.specs.LedEnds.{led_end, led_leaf}
use Rattle.adl_program.proofs.PartNumbers.{is_unnamed}

-- a name that no instance has leads nowhere
pub unreached : (h : Hierarchy) (k : ℕ) (p : Name × Name) → part_from 0 (body h k).parts p.0 ≡ None → reached h k p ≡ None
unreached h k p none = by (length h.bodies)
  where
    by : (n : ℕ) → reached_within h n k p ≡ None
    by zero = refl
    by (suc n) = ap (option_and_then (reached_by h (reached_within h n) p.1)) (is_unnamed h k p.0 none)

pub lead_port : (h : Hierarchy) (k : ℕ) (ws : List Id) → option_map (λ l. l.port) (lead_of h k ws) ≡ option_and_then (port_by h k)
    (port_in ws)
lead_port h k ws = by (port_in ws)
  where
    past : (a : PartAt) (o : Option Port)
        → option_map (λ (l : Lead). l.port) (option_map (λ p. record { part = a; port = p }) o) ≡ o
    past a None = refl
    past a (Some p) = refl

    by_part : (p : Name × Name) (o : Option PartAt) → part_from 0 (body h k).parts p.0 ≡ o
        → option_map (λ l. l.port) (option_and_then (lead_by h k p) o) ≡ port_by h k p
    by_part p None e = sym (ap (option_map (port_reached h)) (unreached h k p e))
    by_part p (Some a) e = past a (port_by h k p)

    by : (o : Option (Name × Name)) → option_map (λ l. l.port) (option_and_then (lead_to h k) o) ≡ option_and_then (port_by h k) o
    by None = refl
    by (Some p) = by_part p (part_from 0 (body h k).parts p.0) refl

-- typing looks at the leaf interface that an end leads to
pub lead_leaf : (h : Hierarchy) (k : ℕ) (e : End) → led_leaf h (led_end h k e) ≡ leaf_of h k e.words
lead_leaf h k e =
    past (lead_of h k e.words) ∙ ap (option_and_then (leaf_from h)) (lead_port h k e.words) ∙ by (port_in e.words)
  where
    past : (o : Option Lead) → option_and_then (λ l. leaf_from h l.port) o ≡ option_and_then (leaf_from h)
        (option_map (λ l. l.port) o)
    past None = refl
    past (Some l) = refl

    own : (j : Name) (o : Option Component)
        → option_and_then (λ c. option_and_then (as_leaf (is_device c)) (slice_get c.members
        (option_map_or (λ c. place_by (is_interface j) c.members) o 0))) o ≡ option_and_then (leaf_in j) o
    own j None = refl
    own j (Some c) = refl

    of : (o : Option Reached) → option_and_then (leaf_from h) (option_map (port_reached h) o) ≡ option_and_then
        (λ r. option_and_then (leaf_in r.interface) (body h r.part.kind).component) o
    of None = refl
    of (Some r) = own r.interface (body h r.part.kind).component

    by : (o : Option (Name × Name)) → option_and_then (leaf_from h) (option_and_then (port_by h k) o)
        ≡ option_and_then (leaf_by h k) o
    by None = refl
    by (Some p) = of (reached h k p)
