-- The threads of a domain: leaf by leaf, the leaf's control thread and then one for each of its ends that serves calls. A
-- thread is first known by its leaf and its end alone; addresses, objects and the lines of the map are made from this list.
use Rattle.std.specs.Prelude.{ℕ, Bool, true, false, if◌then◌else◌, List, [], ◌∷◌, Option, Some, None}
use Rattle.vspace_layout.specs.Below.{Connector, EndAt, Flat, Role, Rpc, To, end_of, ends_at, flat_map, option_map_or}
use Rattle.vspace_layout.specs.declared.thread.ThreadOf.{ThreadOf}

abbrev pub is_called : Connector → Role → Bool
is_called Rpc To = true
is_called _ _ = false

-- whether calls come in by the end
abbrev pub serves : Flat → EndAt → Bool
serves flat e = option_map_or (λ x. is_called x.0 x.1.role) (end_of flat e.connection e.end) false

abbrev pub thread : ℕ → Option EndAt → ThreadOf
thread leaf end = record { leaf = leaf; end = end }

abbrev pub server : Flat → ℕ → EndAt → List ThreadOf
server flat leaf e = if serves flat e then thread leaf (Some e) ∷ [] else []

abbrev pub leaf_threads : Flat → List (List EndAt) → ℕ → List ThreadOf
leaf_threads flat ends leaf = thread leaf None ∷ flat_map (server flat leaf) (ends_at ends leaf)

-- of a domain with these leaves
abbrev pub domain_threads : Flat → List (List EndAt) → List ℕ → List ThreadOf
domain_threads flat ends leaves = flat_map (leaf_threads flat ends) leaves
