-- What a function makes of parts that may be absent.
use Rattle.std.specs.Prelude.{Option, Some, None}
use Rattle.std.specs.Option.{option_map}

abbrev pub of_two : {A B C : Type 0} → (A → B → C) → Option A → Option B → Option C
of_two make None b = None
of_two make (Some a) b = option_map (make a) b

abbrev pub of_three : {A B C D : Type 0} → (A → B → C → D) → Option A → Option B → Option C → Option D
of_three make None b c = None
of_three make (Some a) b c = of_two (make a) b c

abbrev pub of_four : {A B C D E : Type 0} → (A → B → C → D → E) → Option A → Option B → Option C → Option D → Option E
of_four make None b c d = None
of_four make (Some a) b c d = of_three (make a) b c d

abbrev pub of_six : {A B C D E F G : Type 0} → (A → B → C → D → E → F → G) → Option A → Option B → Option C → Option D → Option E
    → Option F → Option G
of_six make None b c d e f = None
of_six make (Some a) None c d e f = None
of_six make (Some a) (Some b) c d e f = of_four (make a b) c d e f
