-- Unconnected stands at an interface that a component uses without `maybe`, where an instance of it is a leaf whose interface
-- no end joins.
use Rattle.std.specs.Prelude.{ℕ, Bool, ◌||◌, not, List, []}
use Rattle.adl_meaning.specs.Below.{Fault, Interface, Member, enumerate_from, flat_map, list_any, option_map_or}
use Rattle.cam_base.specs.declared.code.Code.TheVariants as code
use Rattle.adl_ast.specs.declared.component.InterfaceKind.TheVariants as kinds
use Rattle.adl_ast.specs.declared.component.Member.TheVariants as members
use Rattle.adl_meaning.specs.Export.{same_kind}
use Rattle.adl_meaning.specs.Faults.{at_word, where_false}
use Rattle.adl_meaning.specs.Hierarchy.{Hierarchy, body}
use Rattle.adl_meaning.specs.JoinedEnds.{JoinedEnd, joined_ends, is_at}
use Rattle.adl_meaning.specs.Paths.{Placed, leaves}

-- whether the interface may stay without a connection
abbrev pub may_stay : Interface → Bool
may_stay i = i.maybe || not (same_kind i.kind kinds.Uses)

-- a member of a leaf, by its place
abbrev pub unjoined_member : List JoinedEnd → ℕ → ℕ × Member → List Fault
unjoined_member all leaf (m, members.Interface i) = where_false (may_stay i || list_any (is_at leaf m) all)
    (at_word code.Unconnected i.id)
unjoined_member all leaf (m, members.Control p) = []
unjoined_member all leaf (m, members.Hardware p) = []
unjoined_member all leaf (m, members.Include i) = []
unjoined_member all leaf (m, members.Attribute a) = []
unjoined_member all leaf (m, members.Lock l) = []
unjoined_member all leaf (m, members.Composition k) = []
unjoined_member all leaf (m, members.Configuration f) = []

-- a leaf, by its number
abbrev pub unjoined_at : Hierarchy → List JoinedEnd → ℕ × Placed → List Fault
unjoined_at h all x = option_map_or (λ c. flat_map (unjoined_member all x.0) (enumerate_from 0 c.members))
    (body h x.1.part.kind).component []

abbrev pub unconnected_in : Hierarchy → List Fault
unconnected_in h = flat_map (unjoined_at h (joined_ends h)) (enumerate_from 0 (leaves h))
