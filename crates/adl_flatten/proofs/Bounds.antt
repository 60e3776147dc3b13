-- Numbers of leaves in a template are at most that of its leaves, and those of an instance are among those of its body.
use Rattle.adl_flatten.proofs.TemplateCommon.{All, All-map, Bool, Component, Export, Hierarchy, IsReady, Joined, List, Name, None, Option, Part, Placed, Some, [], ap, arith, at_place, below, body, common_steps, cond_both, connection_in, end_in, ends_in, export_named, export_target, exports_of, false, flat_map, from_filter_map, get_or, get_or_from_slice_get, homed, in_place, is_composite, is_interface, joined_by, kind_in, leaves_before, leaves_by, leaves_in, leaves_step, length, length-flat_map-take, length-map, map, map_some, moved_leaf, option_and_then_some, option_map, option_map_or, place_by, placed_by, port_in, reached, read_in, same_path, slice_get, subst, sym, take, target, target_in, target_of, template_connections, template_leaves, ℕ, ◌++◌, ◌+◌, ◌<◌, ◌^◌, ◌∙◌, ◌∷◌, ◌≡◌, ◌≤◌}
use Rattle.adl_meaning.specs.Joins.{connections_in}
use Rattle.std.specs.Option.{option_flatten}
use Rattle.adl_flatten.proofs.Placing.{template_leaves_placed}

place_below : {X : Type 0} (p : X → Bool) (xs : List X) → place_by p xs ≤ length xs
place_below p [] = omega arith
place_below p (x ∷ xs) = grind (arith, common_steps, place_below p xs)

-- ---- in a template

pub export_below : (h : Hierarchy) (k : ℕ) (n : Name) (o : Option (Option ℕ)) (t : ℕ) → o ≡ export_target h k n
    → option_flatten o ≡ Some t → t ≤ length (leaves_in h k)
export_below h k n None t e f = cc
export_below h k n (Some o) t e f =
    let x = map_some (λ (e : Export). target_of h k e.words) (export_named (exports_of (body h k)) n) o (sym e) in
    option_and_then_some (target h k) (port_in x.0.words) t (x.2 ∙ f) (λ port e1 e2.
    let r = map_some (target_in h k) (reached h k port) t e2 in
    let P : ℕ → Type 0 = λ u. u ≤ length (leaves_in h k) in
    subst P r.2 (place_below (λ (x : Placed). same_path r.0.path x.path) (leaves_in h k)))

pub connections_below : (h : Hierarchy) (k a n : ℕ) → a + length (leaves_in h k) < n
    → All (λ c. All (λ e. a + e.leaf < n) c.ends) (template_connections h k)
connections_below h k a n l = All-map (λ c. All (λ e. a + e.leaf < n) c.ends) (connection_in h k) (connections_in h k)
    (λ j c m i d b.
    let x = get_or (connections_in h k) j c in
    let e = from_filter_map (λ e. option_map (end_in h k x.path e) (joined_by h x.inside e)) (get_or (ends_in h k x) i d)
    x.wire.1.ends (read_in (ends_in h k x) i d b) in
    let r = map_some (end_in h k x.path e.0) (joined_by h x.inside e.0) (get_or (ends_in h k x) i d) e.2 in
    let P : Joined → Type 0 = λ y. a + y.leaf < n in
    let p = place_below (λ (y : Placed). same_path (x.path ++ r.0.path) y.path) (leaves_in h k) in
    subst P r.2 (omega (arith, p, l)))

-- ---- in the body around

pub room : (h : Hierarchy) → IsReady h → (k i : ℕ) (x : Part) → k ≤ length h.bodies → slice_get (body h k).parts i ≡ Some x
    → leaves_before h k i + length (leaves_in h x.kind) ≤ length (leaves_in h k)
room h ready k i x l g =
    let parts = (body h k).parts in
    let none = λ (e : is_composite h x.kind ≡ false). leaves_step h ready.finite x.kind
    (kind_in h ready.finite k x l (in_place x parts i g)) ∙ ap (flat_map (placed_by h (leaves_in h)))
    (ready.composed x.kind e) in
    let inner : length (leaves_in h x.kind) ≤ length (leaves_by h x) =
    cond_both (is_composite h x.kind) (map (moved_leaf x) (template_leaves h x.kind)) _
    (λ ys. length (leaves_in h x.kind) ≤ length ys)
    (λ e. omega (arith, length-map (template_leaves h x.kind) (moved_leaf x), length-map (leaves_in h x.kind) (homed h x.kind)))
    (λ e. omega (arith, ap (λ xs. length xs) (none e))) in
    let taken = length-flat_map-take (leaves_by h) parts i x (below parts i x g) in
    let own : length (leaves_by h (get_or parts i x)) ≡ length (leaves_by h x) =
    ap (λ z. length (leaves_by h z)) (get_or_from_slice_get parts i x x g) in
    let all : length (template_leaves h k) ≡ length (flat_map (leaves_by h) parts) =
    ap (λ xs. length xs) (template_leaves_placed h ready k l) in
    omega (arith, inner, taken, own, all, length-map (leaves_in h k) (homed h k))

-- the leaves before an instance are no more than those of the body
pub few_before : (h : Hierarchy) → IsReady h → (k i : ℕ) → k ≤ length h.bodies → i < length (body h k).parts
    → length (flat_map (leaves_by h) (take i (body h k).parts)) ≤ length (leaves_in h k)
few_before h ready k i l b = let x = at_place (body h k).parts i b in let r = room h ready k i x.0 l x.1 in omega (arith, r)

-- ---- members

pub member_few : (c : Option Component) (n : Name) → option_map_or (λ c. length c.members) c 0 < 2 ^ 32
    → option_map_or (λ c. place_by (is_interface n) c.members) c 0 < 2 ^ 32
member_few None n l = l
member_few (Some c) n l = let p = place_below (is_interface n) c.members in omega (arith, p, l)
