-- The limits of a hierarchy: a leaf path of at most 16 names, at most 1,024 leaves, devices among them, 4,096 connections
-- and 16,384 ends. The fault of a limit stands at the keyword of the assembly, and its name says which one is passed. All
-- stand at one place, so the first of them in this order is told. Numbers are plain sums over paths, however large.
use Rattle.std.specs.Prelude.{ℕ, nat_lt, List, [], ◌∷◌, ◌++◌, map, length, max, codes, Option}
use Rattle.adl_meaning.specs.Below.{Assembly, End, Fault, Source, flat_map}
use Rattle.cam_base.specs.declared.code.Code.TheVariants as code
use Rattle.adl_meaning.specs.Faults.{least, where_true}
use Rattle.adl_meaning.specs.declared.item_at.ItemAt.{ItemAt}
use Rattle.adl_meaning.specs.Hierarchy.{Hierarchy, hierarchy_of}
use Rattle.adl_meaning.specs.Items.{Name, assemblies}
use Rattle.adl_meaning.specs.Joins.{connections}
use Rattle.adl_meaning.specs.Paths.{Path, leaves}

abbrev pub longest : List Path → ℕ
longest [] = 0
longest (p ∷ ps) = max (length p) (longest ps)

-- the names of the longest leaf path
abbrev pub depth : Hierarchy → ℕ
depth h = longest (map (λ x. x.path) (leaves h))

abbrev pub all_ends : Hierarchy → List End
all_ends h = flat_map (λ x. x.wire.1.ends) (connections h)

-- the limit of the name, where the number is above the greatest allowed
abbrev pub limit_passed : ItemAt × Assembly → Name → ℕ → ℕ → List Fault
limit_passed a name greatest n = where_true (nat_lt greatest n) (record { code = code.Limit; place = a.1.place; name = name })

abbrev pub limits_passed : Hierarchy → ItemAt × Assembly → List Fault
limits_passed h a =
    limit_passed a (codes "depth") 16 (depth h)
    ++ limit_passed a (codes "leaves") 1024 (length (leaves h))
    ++ limit_passed a (codes "connections") 4096 (length (connections h))
    ++ limit_passed a (codes "ends") 16384 (length (all_ends h))

abbrev pub size_faults : Source → List Fault
size_faults s = flat_map (limits_passed (hierarchy_of s)) (assemblies s)

abbrev pub first_size_fault : Source → Option Fault
first_size_fault s = least (size_faults s)
