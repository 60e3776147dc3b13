-- What an instance places of the template of its component.
use Rattle.adl_flatten.proofs.TemplateCommon.{End, Export, Hierarchy, Homed, IsIn, IsReady, Joined, List, Name, None, Option, Part, Path, Placed, Reached, Some, Strung, [], ap, arith, behind, body, connection_in, connections_by, connections_step, cons_option, end_in, export_named, exports_of, filter_map, flat_map, flat_map_same, from_get_map, further, gather, gathered, get_map, group_above, group_or, homed, in_place, inl, inr, is_composite, is_once, joined_by, kind_in, leaf_place, leaves_before, leaves_by, leaves_in, leaves_step, length, map, map-append, member_number, moved_connection, moved_end, moved_leaf, name_of, option_and_then, option_and_then_some, option_map, outside, own_connections, part_named, placed_by, port_in, reached, reached_by, reached_step, refl, same_path, slice_get, strung, strung_by, suc, sym, take, target, target_by, target_in, target_of, template_connections, template_leaves, true, wires_of, ℕ, ◌++◌, ◌+◌, ◌∙◌, ◌∷◌, ◌≡◌, ◌≤◌}
use Rattle.adl_meaning.specs.Joins.{connections_in}
use Rattle.cam_base.proofs.Gathered.{place_of as number_at}
use Rattle.std.proofs.lemmas.Bool.{cases_Bool}
use Rattle.adl_hierarchy.proofs.DomainNames.{same_path-Decides}
use Rattle.adl_hierarchy.proofs.Once.{paths_within_once}
use Rattle.adl_hierarchy.proofs.Places.{place_is}
use Rattle.adl_hierarchy.proofs.Repeats.{find_once}
use Rattle.adl_flatten.proofs.Standing.{composite_around, joined_met, reached_met}

map_flat : {X Y Z : Type 0} (g : Y → Z) (f : X → List Y) (xs : List X) → map g (flat_map f xs) ≡ flat_map (λ x. map g (f x)) xs
map_flat g f [] = refl
map_flat g f (x ∷ xs) = map-append g (f x) (flat_map f xs) ∙ ap (λ ys. map g (f x) ++ ys) (map_flat g f xs)

flat_map_gathered : {X Y : Type 0} (f : X → List Y) (g : ℕ → X → List Y) (xs : List X)
    → ((i : ℕ) (x : X) → slice_get xs i ≡ Some x → f x ≡ g i x) → flat_map f xs ≡ gather g xs
flat_map_gathered f g [] same = refl
flat_map_gathered f g (x ∷ xs) same =
    ap (λ ys. ys ++ flat_map f xs) (same 0 x refl) ∙ ap (λ ys. g 0 x ++ ys) (flat_map_gathered f (λ k z. g (suc k) z) xs
    (λ i y s. same (suc i) y s))

-- an element of what one element of a list gives
get_flat_map : {X Y : Type 0} (f : X → List Y) (xs : List X) (i n : ℕ) (x : X) (y : Y) → slice_get xs i ≡ Some x
    → slice_get (f x) n ≡ Some y
    → slice_get (flat_map f xs) (length (flat_map f (take i xs)) + n) ≡ Some y
get_flat_map {X} {Y} f xs i n x y g t =
    let F : ℕ → X → List Y = λ k z. f z in
    ap (λ ys. slice_get ys (length (flat_map f (take i xs)) + n)) (flat_map_gathered f F xs (λ j z e. refl))
    ∙ gathered F xs i x n y (length (flat_map f (take i xs)) + n) g t
    (ap (λ ys. length ys + n) (flat_map_gathered f F (take i xs) (λ j z e. refl)))

-- where two ways to make each element lead to the same
pub map_both : {X A B Y : Type 0} (f : A → Y) (a : X → A) (g : B → Y) (b : X → B) (xs : List X)
    → ((x : X) → IsIn x xs → f (a x) ≡ g (b x)) → map f (map a xs) ≡ map g (map b xs)
map_both f a g b [] same = refl
map_both f a g b (x ∷ xs) same = ap (λ y. y ∷ map f (map a xs)) (same x (inl refl))
    ∙ ap (λ ys. g (b x) ∷ ys) (map_both f a g b xs (λ y i. same y (inr i)))

by_option : {A : Type 0} (P : Option A → Type 0) (o : Option A) → P None → ((x : A) → o ≡ Some x → P (Some x)) → P o
by_option P None none some = none
by_option P (Some x) none some = some x refl

-- ---- leaves

-- the leaves of an instance, with their homes
leaves_placed : (h : Hierarchy) → IsReady h → (k : ℕ) (x : Part) → IsIn x (body h k).parts
    → map (homed h k) (placed_by h (leaves_in h) x) ≡ leaves_by h x
leaves_placed h ready k x i =
    let at_home : (p : Path)
    → group_above h k (name_of x ∷ p) ≡ group_or x.group (option_map (λ q. name_of x ∷ q) (group_above h x.kind p)) = λ p.
    ap (option_and_then (λ (y : Part). group_or y.group (option_map (λ q. name_of x ∷ q) (group_above h y.kind p))))
    (find_once name_of (body h k).parts x (ready.once k) i) in
    elim (cases_Bool (is_composite h x.kind)) [
      | inl e ↦ rw e (map_both (homed h k) (outside (name_of x)) (moved_leaf x) (homed h x.kind) (leaves_in h x.kind)
          (λ y m. ap (λ o. record { leaf = outside (name_of x) y; home = o }) (at_home y.path)))
      | inr e ↦ rw e (ap (λ o. record { leaf = record { path = name_of x ∷ []; part = x }; home = o } ∷ []) (at_home []))
    ]

pub template_leaves_placed : (h : Hierarchy) → IsReady h → (k : ℕ) → k ≤ length h.bodies
    → template_leaves h k ≡ flat_map (leaves_by h) (body h k).parts
template_leaves_placed h ready k l =
    ap (map (homed h k)) (leaves_step h ready.finite k l) ∙ map_flat (homed h k) (placed_by h (leaves_in h)) (body h k).parts
    ∙ flat_map_same (λ x. map (homed h k) (placed_by h (leaves_in h) x)) (leaves_by h) (body h k).parts
    (λ x i. leaves_placed h ready k x i)

-- a leaf's place is its number
place_of : (h : Hierarchy) → IsReady h → (k n : ℕ) (y : Placed) → slice_get (leaves_in h k) n ≡ Some y → leaf_place h k y.path ≡ n
place_of h ready k n y e = place_is same_path same_path-Decides (λ (y : Placed). y.path) (leaves_in h k) n y
    (paths_within_once h ready.once (length h.bodies) k) e

-- a leaf that an instance gives stands that far behind the leaves before the instance
given_at : (h : Hierarchy) → IsReady h → (k i n : ℕ) (x : Part) (y : Homed) → k ≤ length h.bodies
    → slice_get (body h k).parts i ≡ Some x
    → slice_get (leaves_by h x) n ≡ Some y → leaf_place h k y.leaf.path ≡ leaves_before h k i + n
given_at h ready k i n x y l g t =
    let m = leaves_before h k i + n in
    let s = ap (λ ls. slice_get ls m) (template_leaves_placed h ready k l) ∙ get_flat_map (leaves_by h) (body h k).parts
    i n x y g t in
    let at = from_get_map (homed h k) (leaves_in h k) m y s in
    ap (λ (y : Homed). leaf_place h k y.leaf.path) (sym at.2) ∙ place_of h ready k m at.0 at.1

leaf_moved : (h : Hierarchy) → IsReady h → (k i : ℕ) (x : Part) (y : Placed) → k ≤ length h.bodies
    → slice_get (body h k).parts i ≡ Some x
    → is_composite h x.kind ≡ true → IsIn y (leaves_in h x.kind)
    → leaf_place h k (name_of x ∷ y.path) ≡ leaves_before h k i + leaf_place h x.kind y.path
leaf_moved h ready k i x y l g c m =
    let at = number_at y (leaves_in h x.kind) m in
    let inner = get_map (homed h x.kind) (leaves_in h x.kind) at.0 y at.1 in
    given_at h ready k i at.0 x (moved_leaf x (homed h x.kind y)) l g
    (rw c (get_map (moved_leaf x) (template_leaves h x.kind) at.0 (homed h x.kind y) inner))
    ∙ ap (λ n. leaves_before h k i + n) (sym (place_of h ready x.kind at.0 y at.1))

-- ---- ports

-- where the first export under a name leads
exported : (h : Hierarchy) (k : ℕ) (e : Option Export)
    → option_map (target_in h k) (option_and_then (reached h k) (option_and_then (λ e. port_in e.words) e)) ≡ option_and_then
    (λ t. t) (option_map (λ e. target_of h k e.words) e)
exported h k None = refl
exported h k (Some e) = by_option (λ o. option_map (target_in h k) (option_and_then (reached h k) o) ≡ option_and_then
    (target h k) o) (port_in e.words) refl (λ port q. refl)

-- where an interface of an instance leads, from its component
pub target_step : (h : Hierarchy) → IsReady h → (k i : ℕ) (c j : Name) (x : Part) → k ≤ length h.bodies
    → slice_get (body h k).parts i ≡ Some x → part_named (body h k).parts c ≡ Some x
    → target h k (c, j) ≡ target_by h (leaves_before h k i) x.kind j
target_step h ready k i c j x l g p =
    let o = leaves_before h k i in
    let port = option_and_then (λ (e : Export). port_in e.words) (export_named (exports_of (body h x.kind)) j) in
    ap (option_map (target_in h k)) (reached_step h ready.finite k l (c, j) ∙ ap (option_and_then (reached_by h (reached h) j)) p)
    ∙ elim (cases_Bool (is_composite h x.kind)) [
      | inl e ↦ rw e
          (by_option (λ r. option_map (target_in h k) (option_map (behind (name_of x)) r) ≡ option_map (λ n. o + n)
          (option_map (target_in h x.kind) r))
          (option_and_then (reached h x.kind) port) refl
          (λ r q. ap Some
          (option_and_then_some (reached h x.kind) port r q (λ port e1 e2.
          leaf_moved h ready k i x (record { path = r.path; part = r.part }) l g e
          (reached_met h ready x.kind port r (kind_in h ready.finite k x l (in_place x (body h k).parts i g)) e2))))
          ∙ ap (option_map (λ n. o + n)) (exported h x.kind (export_named (exports_of (body h x.kind)) j)))
      | inr e ↦
          let own : Homed = record { leaf = record { path = name_of x ∷ []; part = x }; home = group_or x.group None } in
          rw e (ap Some
          (given_at h ready k i 0 x own l g (rw e refl) ∙ omega arith))
    ]

-- ---- connections

ends_moved : (f g : End → Reached → Joined) (j : End → Option Reached) (o : ℕ)
    → ((e : End) (r : Reached) → j e ≡ Some r → f e r ≡ moved_end o (g e r)) → (es : List End)
    → filter_map (λ e. option_map (f e) (j e)) es ≡ map (moved_end o) (filter_map (λ e. option_map (g e) (j e)) es)
ends_moved f g j o same [] = refl
ends_moved f g j o same (e ∷ es) =
    let ih = ends_moved f g j o same es in
    by_option (λ r. cons_option (option_map (f e) r) (filter_map (λ e. option_map (f e) (j e)) es) ≡ map (moved_end o)
    (cons_option (option_map (g e) r) (filter_map (λ e. option_map (g e) (j e)) es)))
    (j e) ih (λ r q. let s = same e r q in ap (λ y. y ∷ filter_map (λ e. option_map (f e) (j e)) es) s
    ∙ ap (λ ys. moved_end o (g e r) ∷ ys) ih)

-- a connection inside an instance
connection_moved : (h : Hierarchy) → IsReady h → (k i : ℕ) (x : Part) (y : Strung) → k ≤ length h.bodies
    → slice_get (body h k).parts i ≡ Some x → IsIn y (connections_in h x.kind)
    → connection_in h k (further (name_of x) y) ≡ moved_connection (name_of x) (leaves_before h k i) (connection_in h x.kind y)
connection_moved h ready k i x y l g m =
    let o = leaves_before h k i in
    let low = kind_in h ready.finite k x l (in_place x (body h k).parts i g) in
    let one : (e : End) (r : Reached) → joined_by h y.inside e ≡ Some r
    → end_in h k (name_of x ∷ y.path) e r ≡ moved_end o (end_in h x.kind y.path e r) = λ e r q.
    ap (λ n. record { end = e; leaf = n; member = member_number h r.part r.interface; once = is_once h r })
    (leaf_moved h ready k i x (record { path = y.path ++ r.path; part = r.part }) l g (composite_around h ready x.kind y low m)
    (joined_met h ready x.kind y e r low m q)) in
    ap (λ es. record { path = name_of x ∷ y.path; wire = y.wire; ends = es }) (ends_moved (end_in h k (name_of x ∷ y.path))
    (end_in h x.kind y.path) (joined_by h y.inside) o one y.wire.1.ends)

pub connections_placed : (h : Hierarchy) → IsReady h → (k : ℕ) → k ≤ length h.bodies
    → template_connections h k ≡ own_connections h k ++ gather (connections_by h k) (body h k).parts
connections_placed h ready k l =
    let own = map (strung k) (wires_of (body h k)) in
    let f = connection_in h k in
    ap (map f) (connections_step h ready.finite k l) ∙ map-append f own (flat_map (strung_by (connections_in h)) (body h k).parts)
    ∙ ap (λ ys. map f own ++ ys) (map_flat f (strung_by (connections_in h)) (body h k).parts
    ∙ flat_map_gathered (λ x. map f (strung_by (connections_in h) x)) (connections_by h k) (body h k).parts (λ i x g.
    map_both f (further (name_of x)) (moved_connection (name_of x) (leaves_before h k i)) (connection_in h x.kind)
    (connections_in h x.kind) (λ y m. connection_moved h ready k i x y l g m)))
