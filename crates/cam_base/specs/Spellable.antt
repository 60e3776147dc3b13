-- Whether each part of a form has a spelling: a test that a written-out grammar passes by computing it, given a few
-- sample tokens. Of such forms the beginnings are exactly the fronts of spellings.
use Rattle.std.specs.Prelude.{ℕ, Bool, true, false, List, [], ◌∷◌, if◌then◌else◌, ◌&&◌, ◌||◌}
use Rattle.cam_base.specs.Form.{Form, Give, One, Then, Or, Many, As, Starts, Nested, among}

module _ {T : Type 0} (code : T → ℕ) where
  -- one of the samples has one of these codes
  abbrev pub has_sample : List T → List ℕ → Bool
  has_sample [] cs = false
  has_sample (t ∷ ts) cs = if among cs (code t) then true else has_sample ts cs

  module _ {V : Type 0} (samples : List T) (nested : Bool) where
    -- samples spell the form; nested says whether the line that may stand within itself has a spelling
    abbrev pub has_spelling : {A : Type 0} → Form T V A → Bool
    has_spelling (Give x) = true
    has_spelling (One cs) = has_sample samples cs
    has_spelling (Then f g) = has_spelling f && has_spelling g
    has_spelling (Or f g) = has_spelling f || has_spelling g
    has_spelling (Many f) = true
    has_spelling (As h f) = has_spelling f
    has_spelling (Starts cs f) = has_spelling f
    has_spelling Nested = nested

    -- each part of the form has a spelling
    abbrev pub parts_have_spellings : {A : Type 0} → Form T V A → Bool
    parts_have_spellings (Give x) = true
    parts_have_spellings (One cs) = has_sample samples cs
    parts_have_spellings (Then f g) = parts_have_spellings f && (parts_have_spellings g && has_spelling g)
    parts_have_spellings (Or f g) = parts_have_spellings f && parts_have_spellings g
    parts_have_spellings (Many f) = parts_have_spellings f
    parts_have_spellings (As h f) = parts_have_spellings f
    parts_have_spellings (Starts cs f) = parts_have_spellings f
    parts_have_spellings Nested = nested
