-- The template of the assembly is the flat system.
use Rattle.adl_flatten.proofs.Common.{Connected, End, Hierarchy, Homed, Joined, Leaf, List, Option, Reached, Strung, [], all_joined, ap, arith, at_word, common_steps, connection_in, connections, domain_at, end_in, ends_in, enumerate_from, faults_by, filter_map, flat_connection_of, flat_end, flat_end_of, flat_ends, flat_map, flat_map-map, flattened, homed, in_one, in_one_domain, is_direct, join_faults_in, joined_by, joined_end, joined_end_of, joined_ends, joined_ends_of, joined_of, leaves, list_all-map, map, map-id, map-map, misplaced_call, misplaced_device, misplaced_leaf, not, option_map, parted_call, refl, same_domain, sym, template_connections, template_leaves, top_number, unjoined_at, used_twice, where_true, ℕ, ◌&&◌, ◌++◌, ◌+◌, ◌∙◌, ◌∷◌, ◌≡◌}
use Rattle.cam_base.specs.declared.code.Code.TheVariants as code

-- ---- ends and connections

-- what is told of the ends that join something
ends_told : {Y : Type 0} (f : End → Reached → Joined) (g : Joined → Y) (k : End → Reached → Y) (j : End → Option Reached)
    → ((e : End) (r : Reached) → g (f e r) ≡ k e r) → (es : List End)
    → map g (filter_map (λ e. option_map (f e) (j e)) es) ≡ filter_map (λ e. option_map (k e) (j e)) es
ends_told f g k j same [] = refl
ends_told f g k j same (e ∷ es) = grind (arith, common_steps, same e, ends_told f g k j same es)

flat_ends_are : (h : Hierarchy) (x : Strung) → map flat_end_of (ends_in h (top_number h) x) ≡ flat_ends h x
flat_ends_are h x = ends_told (end_in h (top_number h) x.path) flat_end_of (flat_end h x.path) (joined_by h x.inside)
    (λ e r. refl) x.wire.1.ends

joined_are : (h : Hierarchy) (n : ℕ) (x : Strung) → joined_of (n, connection_in h (top_number h) x) ≡ joined_ends_of h (n, x)
joined_are h n x = ends_told (end_in h (top_number h) x.path) (joined_end_of n) (joined_end h (n, x)) (joined_by h x.inside)
    (λ e r. refl) x.wire.1.ends

pub connections_are : (h : Hierarchy) → map flat_connection_of (template_connections h (top_number h)) ≡ (flattened h).connections
connections_are h =
    map-map flat_connection_of (connection_in h (top_number h)) (connections h)
    ∙ ap (λ f. map f (connections h)) (λ i x. record {
      path = x.path ++ x.wire.1.id.name ∷ [];
      connector = x.wire.0;
      place = x.wire.1.id.place;
      ends = flat_ends_are h x i;
    })

-- a list with numbers, of what is made of each element
numbered_map : {X Y Z : Type 0} (f : ℕ × Y → List Z) (k : ℕ × X → List Z) (g : X → Y) → ((n : ℕ) (x : X) → f (n, g x) ≡ k (n, x))
    → (a : ℕ) (xs : List X)
    → flat_map f (enumerate_from a (map g xs)) ≡ flat_map k (enumerate_from a xs)
numbered_map f k g same a [] = refl
numbered_map f k g same a (x ∷ xs) = ap (λ ys. ys ++ flat_map f (enumerate_from (a + 1) (map g xs))) (same a x)
    ∙ ap (λ ys. k (a, x) ++ ys) (numbered_map f k g same (a + 1) xs)

all_joined_are : (h : Hierarchy) → all_joined (template_connections h (top_number h)) ≡ joined_ends h
all_joined_are h = numbered_map joined_of (joined_ends_of h) (connection_in h (top_number h)) (joined_are h) 0 (connections h)

-- ---- faults

placed_are : (h : Hierarchy) → map (λ x. x.leaf) (template_leaves h (top_number h)) ≡ leaves h
placed_are h = map-map (λ (x : Homed). x.leaf) (homed h (top_number h)) (leaves h) ∙ map-id (leaves h)

devices_are : (h : Hierarchy) → flat_map (misplaced_leaf h) (template_leaves h (top_number h)) ≡ flat_map
    (misplaced_device h) (leaves h)
devices_are h = flat_map-map (misplaced_leaf h) (homed h (top_number h)) (leaves h)

one_domain : (h : Hierarchy) (es : List Joined) → in_one (flattened h).leaves es ≡ in_one_domain (flattened h)
    (map flat_end_of es)
one_domain h [] = refl
one_domain h (e ∷ es) = sym (list_all-map (λ f. same_domain (domain_at (flattened h) f) (domain_at (flattened h) (flat_end_of e)))
    flat_end_of (e ∷ es))

calls_are : (h : Hierarchy) → flat_map (misplaced_call (flattened h).leaves) (template_connections h (top_number h)) ≡ flat_map
    (parted_call h (flattened h)) (connections h)
calls_are h = flat_map-map (misplaced_call (flattened h).leaves) (connection_in h (top_number h)) (connections h)
    ∙ ap (λ f. flat_map f (connections h)) (λ i x. same x i)
  where
    same : (x : Strung) → misplaced_call (flattened h).leaves (connection_in h (top_number h) x) ≡ parted_call h (flattened h) x
    same x = ap (λ b. where_true (is_direct x.wire.0 && not b) (at_word code.Placement x.wire.1.id))
        (one_domain h (ends_in h (top_number h) x) ∙ ap (in_one_domain (flattened h)) (flat_ends_are h x))

pub faults_are : (h : Hierarchy) (all : List Leaf) (ls : List Homed) (cs : List Connected) → all ≡ (flattened h).leaves
    → ls ≡ template_leaves h (top_number h) → cs ≡ template_connections h (top_number h)
    → faults_by h all ls cs ≡ join_faults_in h
faults_are h all ls cs p q r =
    (λ i. faults_by h (p i) (q i) (r i)) ∙ λ i. flat_map (used_twice (all_joined_are h i)) (all_joined_are h i)
    ++ flat_map (unjoined_at h (all_joined_are h i)) (enumerate_from 0 (placed_are h i)) ++ (devices_are h i ++ calls_are h i)
