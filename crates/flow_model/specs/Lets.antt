-- What a policy lets a label do: what its own edges say, and what those of labels say that it controls. Within one label
-- all is let.
use Rattle.std.specs.Prelude.{◌≡◌, ◌⊎◌, ℕ, List, [], ◌∷◌}
use Rattle.flow_model.specs.Below.{Authority, Control, Edge, Has, Receive}

-- by edges with Control one comes from l over these labels to m
abbrev pub Leads : List Edge → ℕ → List ℕ → ℕ → Type 0
Leads policy l [] m = l ≡ m
Leads policy l (k ∷ path) m = Has policy l Control k × Leads policy k path m

-- l controls m, or what controls m, or so on; or it is m itself
abbrev pub Commands : List Edge → ℕ → ℕ → Type 0
Commands policy l m = (path : List ℕ) × Leads policy l path m

-- l may do to m what the authority says
abbrev pub Lets : List Edge → ℕ → Authority → ℕ → Type 0
Lets policy l a m = (c : ℕ) × Commands policy l c × ((c ≡ m) ⊎ Has policy c a m)

-- l may do so to an endpoint where m receives
abbrev pub Meets : List Edge → ℕ → Authority → ℕ → Type 0
Meets policy l a m = (e : ℕ) × Lets policy l a e × Lets policy m Receive e
