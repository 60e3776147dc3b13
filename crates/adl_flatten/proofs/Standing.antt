-- What ends and ports lead to stands among the leaves of their body.
use Rattle.adl_flatten.proofs.TemplateCommon.{Composition, End, Hierarchy, IsIn, IsReady, List, Name, Option, Part, Placed, Reached, Some, Strung, [], ap, body, connections_step, filter_map, flat_map, is_composite, joined_by, leaves_in, length, map, option_and_then_some, option_map_or, port_in, reached, strung, strung_by, subst, true, true_from_ne_false, wire_of, ℕ, ◌++◌, ◌∙◌, ◌≡◌, ◌≤◌}
use Rattle.adl_meaning.specs.Joins.{connections_in}
use Rattle.adl_meaning.specs.Prelude.{connections_in as lines_in}
use Rattle.cam_base.proofs.Options.{is_none}
use Rattle.adl_hierarchy.proofs.Climbing.{found_climbs}
use Rattle.adl_hierarchy.proofs.Connections.{stands}
use Rattle.adl_hierarchy.proofs.Leaves.{StandsIn, met}
use Rattle.adl_hierarchy.proofs.PartsAt.{at_part, part_append, path_short}

-- ---- where ports and ends lead

leaf_met : (h : Hierarchy) → IsReady h → (k : ℕ) (x : Placed) → k ≤ length h.bodies → StandsIn h k x → IsIn x (leaves_in h k)
leaf_met h ready k x l e =
    met h ready.composed (length h.bodies) k x.path x.part (path_short h ready.finite k x.part.kind x.path l
    (at_part h k x.path x.part e.0)) e.0 e.1

pub reached_met : (h : Hierarchy) → IsReady h → (k : ℕ) (port : Name × Name) (r : Reached) → k ≤ length h.bodies
    → reached h k port ≡ Some r
    → IsIn (record { path = r.path; part = r.part }) (leaves_in h k)
reached_met h ready k port r l e = leaf_met h ready k (record { path = r.path; part = r.part }) l
    (found_climbs h (length h.bodies) k port r e).stands

pub joined_met : (h : Hierarchy) → IsReady h → (k : ℕ) (x : Strung) (e : End) (r : Reached) → k ≤ length h.bodies
    → IsIn x (connections_in h k) → joined_by h x.inside e ≡ Some r
    → IsIn (record { path = x.path ++ r.path; part = r.part }) (leaves_in h k)
joined_met h ready k x e r l i j =
    let there = stands h ready.once (length h.bodies) k x i in
    option_and_then_some (reached h x.inside) (port_in e.words) r j (λ port e1 e2.
    let f = found_climbs h (length h.bodies) x.inside port r e2 in
    leaf_met h ready k (record { path = x.path ++ r.path; part = r.part }) l (
      part_append h k x.inside x.path r.path r.part
          there.0 f.stands.0,
      f.stands.1,
    ))

-- ---- a leaf's component has no connections

pub composite_around : (h : Hierarchy) → IsReady h → (k : ℕ) (x : Strung) → k ≤ length h.bodies → IsIn x (connections_in h k)
    → is_composite h k ≡ true
composite_around h ready k x l i = true_from_ne_false (is_composite h k) (λ c.
    let P : List Strung → Type 0 = λ xs. IsIn x xs in
    let inner : List Part → List Strung = λ ps. flat_map (strung_by (connections_in h)) ps in
    subst P (connections_step h ready.finite k l
    ∙ ap (λ (o : Option Composition). map (strung k) (filter_map wire_of (option_map_or lines_in o [])) ++ inner (body h k).parts)
    (is_none (body h k).composition c) ∙ ap inner (ready.composed k c)) i)
