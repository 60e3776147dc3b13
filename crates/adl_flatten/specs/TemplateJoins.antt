-- The connections of a template in a flat system, how many ends join an interface of a leaf, and the faults of joins.
use Rattle.adl_meaning.specs.Prelude.{Fault, Hierarchy, JoinedEnd, at_word, count_by, enumerate_from, flat_map, is_at, is_direct, is_hardware, last_name, list_all, lookup, option_and_then, option_eq, same_domain, slice_get, unjoined_at, used_twice, where_true}
use Rattle.std.specs.Prelude.{Bool, List, None, Option, Some, [], false, if◌then◌else◌, is_some, map, nat_eq, nat_le, not, true, ℕ, ◌&&◌, ◌++◌, ◌==◌, ◌∷◌, ◌≡◌, ◌≤◌}
use Rattle.adl_meaning.specs.declared.flat.FlatConnection.{FlatConnection}
use Rattle.adl_meaning.specs.declared.flat.FlatEnd.{FlatEnd}
use Rattle.adl_meaning.specs.declared.flat.Leaf.{Leaf}
use Rattle.adl_flatten.specs.Templates.{Connected, Homed, Joined}
use Rattle.adl_flatten.specs.declared.end_counts.EndKey.{EndKey}
use Rattle.cam_base.specs.declared.code.Code.TheVariants as code

abbrev pub flat_end_of : Joined → FlatEnd
flat_end_of e = record { role = e.end.role; leaf = e.leaf; member = e.member; place = e.end.place }

abbrev pub flat_connection_of : Connected → FlatConnection
flat_connection_of c = record {
  path = c.path ++ c.wire.1.id.name ∷ [];
  connector = c.wire.0;
  place = c.wire.1.id.place;
  ends = map flat_end_of c.ends;
}

-- an end of the connection of the number
abbrev pub joined_end_of : ℕ → Joined → JoinedEnd
joined_end_of n e = record { connection = n; word = last_name e.end.words; end = flat_end_of e; once = e.once }

abbrev pub joined_of : ℕ × Connected → List JoinedEnd
joined_of c = map (joined_end_of c.0) c.1.ends

-- the ends of all connections
abbrev pub all_joined : List Connected → List JoinedEnd
all_joined cs = flat_map joined_of (enumerate_from 0 cs)

abbrev pub same_key : EndKey → EndKey → Bool
same_key k l = option_eq nat_eq k.connection l.connection && (k.leaf == l.leaf && k.member == l.member)

-- whether the key is that of the end among all ends, or among those of its connection
abbrev pub joins : EndKey → JoinedEnd → Bool
joins k e = same_key (record { connection = None; leaf = e.end.leaf; member = e.end.member }) k

abbrev pub joins_apart : EndKey → JoinedEnd → Bool
joins_apart k e = same_key (record { connection = Some e.connection; leaf = e.end.leaf; member = e.end.member }) k

-- what a table says of so many ends: nothing of none, and else whether there are several
abbrev pub tally : ℕ → Option Bool
tally n = if nat_le 1 n then Some (nat_le 2 n) else None

abbrev pub seen_at : List (EndKey × Bool) → EndKey → Option Bool
seen_at seen k = lookup (same_key k) seen

-- the ends at an interface that are of one connection
abbrev pub is_apart : ℕ → ℕ → ℕ → JoinedEnd → Bool
is_apart connection leaf member e = e.connection == connection && is_at leaf member e

-- the table says how many of these ends join each interface, and where several join one, also how many of each connection
pub record AreSeen (seen : List (EndKey × Bool)) (several : Bool) (ends : List JoinedEnd) : Type 0 where
  pub all : (leaf member : ℕ) → seen_at seen (record { connection = None; leaf = leaf; member = member }) ≡ tally
      (count_by (is_at leaf member) ends)
  pub once : several ≡ false → (leaf member : ℕ) → count_by (is_at leaf member) ends ≤ 1
  pub apart : several ≡ true → (connection leaf member : ℕ)
      → seen_at seen (record { connection = Some connection; leaf = leaf; member = member }) ≡ tally
      (count_by (is_apart connection leaf member) ends)

-- a device below a group
abbrev pub misplaced_leaf : Hierarchy → Homed → List Fault
misplaced_leaf h l = where_true (is_hardware h l.leaf.part && is_some l.home) (at_word code.Placement l.leaf.part.instance.id)

-- the domain of the leaf that an end joins
abbrev pub domain_in : List Leaf → Joined → Option ℕ
domain_in all e = option_and_then (λ l. l.domain) (slice_get all e.leaf)

abbrev pub all_in : List Leaf → Option ℕ → List Joined → Bool
all_in all domain ends = list_all (λ f. same_domain (domain_in all f) domain) ends

-- whether all ends are in the domain of the first
abbrev pub in_one : List Leaf → List Joined → Bool
in_one all [] = true
in_one all (e ∷ es) = all_in all (domain_in all e) (e ∷ es)

-- a connection of direct calls between domains
abbrev pub misplaced_call : List Leaf → Connected → List Fault
misplaced_call all c = where_true (is_direct c.wire.0 && not (in_one all c.ends)) (at_word code.Placement c.wire.1.id)

-- all faults of joins, of the leaves of a flat system and what the template of the assembly has
abbrev pub faults_by : Hierarchy → List Leaf → List Homed → List Connected → List Fault
faults_by h all ls cs =
    flat_map (used_twice (all_joined cs)) (all_joined cs)
    ++ flat_map (unjoined_at h (all_joined cs)) (enumerate_from 0 (map (λ x. x.leaf) ls))
    ++ (flat_map (misplaced_leaf h) ls ++ flat_map (misplaced_call all) cs)
