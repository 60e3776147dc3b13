-- The instance at a path inside a body: the first name is that of an instance of the body, the next that of an instance
-- of its component, and so on to the last. No instance stands at the empty path.
use Rattle.std.specs.Prelude.{ℕ, [], ◌∷◌, Option, None}
use Rattle.adl_meaning.specs.Prelude.{Hierarchy, Part, Path, body, option_and_then, part_named}

abbrev pub part_at : Hierarchy → ℕ → Path → Option Part
part_at h k [] = None
part_at h k (n ∷ []) = part_named (body h k).parts n
part_at h k (n ∷ m ∷ p) = option_and_then (λ x. part_at h x.kind (m ∷ p)) (part_named (body h k).parts n)
