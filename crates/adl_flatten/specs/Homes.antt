-- The domain of each leaf of a template, and how leaves are put into domains.
use Rattle.adl_meaning.specs.Prelude.{Hierarchy, Path, is_hardware, item_of, place_by, same_path}
use Rattle.std.specs.Prelude.{List, None, Option, Some, [], if◌then◌else◌, option_map, slice_index_or, slice_set, unwrap_or, ℕ, ◌++◌, ◌+◌, ◌∷◌}
use Rattle.adl_meaning.specs.declared.flat.Domain.{Domain}
use Rattle.adl_meaning.specs.declared.flat.Leaf.{Leaf}
use Rattle.adl_flatten.specs.Templates.{Homed}

-- the domain path of a leaf; a device has none
abbrev pub home : Hierarchy → Homed → Option Path
home h l = if is_hardware h l.leaf.part then None else Some (unwrap_or l.home l.leaf.path)

-- a leaf in the domain of the number
abbrev pub leaf_with : Hierarchy → Option ℕ → Homed → Leaf
leaf_with h domain l = record {
  path = l.leaf.path;
  component = item_of h l.leaf.part;
  place = l.leaf.part.instance.component.place;
  hardware = is_hardware h l.leaf.part;
  domain = domain;
}

-- a leaf, where the domains have these paths
abbrev pub leaf_in : Hierarchy → List Path → Homed → Leaf
leaf_in h paths l = leaf_with h (option_map (λ p. place_by (same_path p) paths) (home h l)) l

-- a domain with one leaf more
abbrev pub grown : ℕ → Domain → Domain
grown n d = record d { leaves = d.leaves ++ n ∷ [] }

-- the domains, where the leaf of the number n is put into one of them
abbrev pub put_into : Option ℕ → ℕ → List Domain → List Domain
put_into None n ds = ds
put_into (Some d) n ds = slice_set ds d (grown n (slice_index_or ds d (record { path = []; leaves = [] })))

-- the domains, where each of the leaves, whose numbers begin at n, is put into its own
abbrev pub filled : ℕ → List Leaf → List Domain → List Domain
filled n [] ds = ds
filled n (l ∷ ls) ds = filled (n + 1) ls (put_into l.domain n ds)
