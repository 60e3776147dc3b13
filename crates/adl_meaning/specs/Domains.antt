-- The domain of a leaf is the path of the outermost group above it, which is the path of the group's composition and the
-- group's name, or the leaf's own path where it stands in no group. A device has no domain.
use Rattle.std.specs.Prelude.{ℕ, Bool, false, not, List, [], ◌∷◌, map, Option, Some, None, option_map, unwrap_or}
use Rattle.adl_meaning.specs.Below.{filter, option_and_then, option_map_or}
use Rattle.adl_meaning.specs.CompositeBody.{is_device}
use Rattle.adl_meaning.specs.Hierarchy.{Hierarchy, Part, body, top_number, part_named}
use Rattle.adl_meaning.specs.Items.{Name}
use Rattle.adl_meaning.specs.Lists.{firsts}
use Rattle.adl_meaning.specs.Paths.{Path, leaves, same_path}

-- the group if there is one, else the group above the rest of the path
abbrev pub group_or : Option Name → Option Path → Option Path
group_or None rest = rest
group_or (Some g) rest = Some (g ∷ [])

-- the path of the outermost group above a path inside body k
abbrev pub group_above : Hierarchy → ℕ → Path → Option Path
group_above h k [] = None
group_above h k (n ∷ p) = option_and_then (λ x. group_or x.group (option_map (λ q. n ∷ q) (group_above h x.kind p)))
    (part_named (body h k).parts n)

abbrev pub domain_of : Hierarchy → Path → Path
domain_of h p = unwrap_or (group_above h (top_number h) p) p

-- whether the instance is of a component that says `hardware`
abbrev pub is_hardware : Hierarchy → Part → Bool
is_hardware h x = option_map_or is_device (body h x.kind).component false

-- the domains of all leaves but devices, in the order of their first leaves
abbrev pub domains : Hierarchy → List Path
domains h = firsts same_path (map (λ x. domain_of h x.path) (filter (λ x. not (is_hardware h x.part)) (leaves h)))
