-- What lines say together, with numbers in 32 bits.
use Rattle.std.specs.Prelude.{◌≡◌, ℕ, if◌then◌else◌, List, [], ◌∷◌, ◌++◌, Option, Some, None}
use Rattle.policy_text.specs.Below.{Edge, IsSorted, Line, Policy, filter_map, has, is_name}
use Rattle.policy_text.specs.Entries.{Entry, label, object, edge}
use Rattle.policy_text.specs.Numbers.{narrow}
use Rattle.policy_text.specs.PolicyFaults.{Told}
use Rattle.policy_text.specs.PolicyTexts.{by_number}
use Rattle.policy_text.specs.declared.parts.Parts.{Parts}

abbrev pub built_label : Told → Option (ℕ × List ℕ)
built_label (line, label n name) = Some (narrow n, name)
built_label (line, _) = None

abbrev pub built_object : Told → Option (List ℕ × ℕ)
built_object (line, object word n) = if is_name word then Some (word, narrow n) else None
built_object (line, _) = None

abbrev pub built_edge : Told → Option Edge
built_edge (line, edge l a m) = Some (record { from = narrow l; authority = a; to = narrow m })
built_edge (line, _) = None

-- the parts are what these lines say
pub record IsBuilt (parts : Parts) (lines : List Told) : Type 0 where
  pub labels : parts.labels.entries ≡ by_number (filter_map built_label lines)
  pub objects : parts.objects ≡ filter_map built_object lines
  pub edges : parts.edges.items ≡ filter_map built_edge lines

-- the parts of some lines became those of one line more, which says the entry
abbrev pub Builds : Entry → Parts → Parts → Type 0
Builds entry old new = (before : List Told) (line : Line) → IsBuilt old before → IsBuilt new (before ++ (line, entry) ∷ [])

-- the policy of the parts; a table of edges is told by the edges that it has
pub record IsPolicyOf (parts : Parts) (policy : Policy) : Type 0 where
  pub labels : policy.labels ≡ parts.labels.entries
  pub objects : policy.objects ≡ parts.objects
  pub edges : (e : Edge) → has policy.edges e ≡ has parts.edges.items e
  pub order : IsSorted policy.edges
