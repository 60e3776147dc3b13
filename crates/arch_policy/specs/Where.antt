-- What there is where a test passes.
use Rattle.std.specs.Prelude.{Bool, if◌then◌else◌, List, [], ◌∷◌}

abbrev pub where_true : {X : Type 0} → Bool → X → List X
where_true b x = if b then x ∷ [] else []
