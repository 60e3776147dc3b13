-- The first of a name among named things.
use Rattle.std.specs.Prelude.{List, Option, option_map}
use Rattle.adl_meaning.specs.Prelude.{Id, Name, bytes_eq, find}

abbrev pub first_named : {X : Type 0} → List (Id × X) → Name → Option X
first_named xs n = option_map (λ x. x.1) (find (λ x. bytes_eq n x.0.name) xs)
