-- Each thread's stack has a page, where no fault of settings stands.
use Rattle.spec_laws.proofs.Common.{Bool, Domain, Given, Images, IsIn, Leaf, LeafFound, None, Option, Some, Source, Value, [], and_parts, ap, arith, bad_in_leaf, bad_value, ends, ends_at, false}
use Rattle.spec_laws.proofs.Common.{first_setting_fault, flat_of, from_flat_map, from_get_map, get_map, given, hierarchy_of, in_get, inl, inr, is_there, leaf_found, leaf_owned, leaf_setting, leaf_threads, leaves}
use Rattle.spec_laws.proofs.Common.{leaves_found, leaves_of, leb-true, meant, none_in, none_right, option_map, refl, server, serves, settings_sound, settled_of, slice_get, so, stack_in}
use Rattle.spec_laws.proofs.Common.{rules, stack_pages, subst, sym, thread, threads_of, true, unwrap_or, whole_pages, within, ℕ, ◌&&◌, ◌/◌, ◌≡◌, ◌≤◌}
use Rattle.adl_meaning.specs.Values.{Given as Value_given}
use Rattle.vspace_layout.specs.declared.thread.ThreadOf.{ThreadOf}
use Rattle.spec_laws.proofs.Lists.{shown_if}

-- ---- threads are of leaves of their domain

pub thread_leaf : (g : Given) (leaf : ℕ) (x : ThreadOf) → IsIn x (leaf_threads g.flat (ends g) leaf) → x.leaf ≡ leaf
thread_leaf g leaf x (inl same) = ap (λ (z : ThreadOf). z.leaf) (sym same)
thread_leaf g leaf x (inr i) =
    let e = from_flat_map (server g.flat leaf) x (ends_at (ends g) leaf) i in
    ap (λ (z : ThreadOf). z.leaf) (sym (shown_if (serves g.flat e.0) (thread leaf (Some e.0)) x e.2).1)

-- a domain with a leaf is there
pub domain_there : (g : Given) (d l : ℕ) → IsIn l (leaves_of g.flat d) → (x : Domain) × (slice_get g.flat.domains d ≡ Some x)
    × IsIn l x.leaves
domain_there g d l i = grind (arith)

-- ---- stacks

stack_sized : (n b : ℕ) → option_map whole_pages (within 1 16777216 n) ≡ Some b → 4096 ≤ b
stack_sized n b e = search (rules, leb-true, and_parts)

stack_is : (v : Value) (b : ℕ) → stack_in v ≡ Some b → 4096 ≤ b
stack_is v b e = search (rules, stack_sized)

stack_meant : (o : Option Value_given) → bad_value stack_in o ≡ [] → 4096 ≤ unwrap_or (meant stack_in 16384 o) 0
stack_meant None good = omega arith
stack_meant (Some g) good = grind (arith, is_there, so, stack_is)

leaf_stack : (f : LeafFound) → f.leaf.hardware ≡ false → bad_in_leaf f ≡ [] → 4096 ≤ (leaf_setting f).stack
leaf_stack f soft good = grind (arith, stack_meant, none_right)

-- a leaf of a domain is software
pub soft_leaf : (s : Source) (l d : ℕ) (leaf : Leaf) → slice_get (flat_of s).leaves l ≡ Some leaf → leaf.domain ≡ Some d
    → leaf.hardware ≡ false
soft_leaf s l d leaf at is = search (rules, from_get_map)

stack_some : (s : Source) → first_setting_fault s ≡ None → (l d : ℕ) (leaf : Leaf) → slice_get (flat_of s).leaves l ≡ Some leaf
    → leaf.domain ≡ Some d → 1 ≤ stack_pages (settled_of s) l
stack_some s none l d leaf at own =
    let h = hierarchy_of s in let fs = leaves_found h (flat_of s) in
    let f = leaf_found h leaf in
    let found : slice_get fs l ≡ Some f = get_map (leaf_found h) (flat_of s).leaves l leaf at in
    let good = none_in bad_in_leaf fs f (settings_sound s none).leaves (in_get fs l f found) in
    let is : stack_pages (settled_of s) l ≡ (leaf_setting f).stack / 4096 = search (rules, get_map) in
    omega (arith, leaf_stack f (soft_leaf s l d leaf at own) good, is)

pub stacks_some : (s : Source) (images : Images) → first_setting_fault s ≡ None → (d : ℕ) (x : ThreadOf)
    → IsIn x (threads_of (given s (flat_of s) (settled_of s) images) d) → 1 ≤ stack_pages (settled_of s) x.leaf
stacks_some s images none d x i =
    let g = given s (flat_of s) (settled_of s) images in
    let t = from_flat_map (leaf_threads g.flat (ends g)) x (leaves_of g.flat d) i in
    let y = domain_there g d t.0 t.1 in let own = leaf_owned (hierarchy_of s) d t.0 y.0 y.1 y.2 in
    subst (λ n. 1 ≤ stack_pages (settled_of s) n) (sym (thread_leaf g t.0 x t.2)) (stack_some s none t.0 d own.0 own.1 own.2)
