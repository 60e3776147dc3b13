-- When the next token alone decides how a form goes on: the test that a written-out grammar passes by computing it.
use Rattle.std.specs.Prelude.{ℕ, Bool, true, false, List, [], ◌∷◌, ◌++◌, ◌==◌, if◌then◌else◌, ◌&&◌, ◌||◌, not}
use Rattle.cam_base.specs.Form.{Form, Give, One, Then, Or, Many, As, Starts, Nested, among}

-- the form spells the empty list too
abbrev pub can_be_empty : {T V A : Type 0} → Form T V A → Bool
can_be_empty (Give x) = true
can_be_empty (One cs) = false
can_be_empty (Then f g) = can_be_empty f && can_be_empty g
can_be_empty (Or f g) = can_be_empty f || can_be_empty g
can_be_empty (Many f) = true
can_be_empty (As h f) = can_be_empty f
can_be_empty (Starts cs f) = false
can_be_empty Nested = false

-- the codes that a form may begin with, where the nested line begins with one of opens
abbrev pub first : {T V A : Type 0} → List ℕ → Form T V A → List ℕ
first opens (Give x) = []
first opens (One cs) = cs
first opens (Then f g) = if can_be_empty f then first opens f ++ first opens g else first opens f
first opens (Or f g) = first opens f ++ first opens g
first opens (Many f) = first opens f
first opens (As h f) = first opens f
first opens (Starts cs f) = cs
first opens Nested = opens

-- the codes with which a form that is whole may still go on
abbrev pub further : {T V A : Type 0} → List ℕ → Form T V A → List ℕ
further opens (Give x) = []
further opens (One cs) = []
further opens (Then f g) = if can_be_empty g then further opens f ++ further opens g else further opens g
further opens (Or f g) = if can_be_empty g then first opens f ++ (further opens f ++ further opens g) else further opens f
    ++ further opens g
further opens (Many f) = first opens f ++ further opens f
further opens (As h f) = further opens f
further opens (Starts cs f) = further opens f
further opens Nested = []

-- no code is in both
abbrev pub apart : List ℕ → List ℕ → Bool
apart [] ds = true
apart (c ∷ cs) ds = if among ds c then false else apart cs ds

-- the same codes in the same order
abbrev pub same : List ℕ → List ℕ → Bool
same [] [] = true
same [] (d ∷ ds) = false
same (c ∷ cs) [] = false
same (c ∷ cs) (d ∷ ds) = c == d && same cs ds

-- The next token decides: whether a part that is whole goes on or the next part begins; which member of a choice is
-- meant; whether one more repeat begins. What is said by Starts is true.
abbrev pub decides : {T V A : Type 0} → List ℕ → Form T V A → Bool
decides opens (Give x) = true
decides opens (One cs) = true
decides opens (Then f g) = decides opens f && (decides opens g && apart (further opens f) (first opens g))
decides opens (Or f g) = decides opens f && (decides opens g && (not (can_be_empty f) && apart (first opens f) (first opens g)))
decides opens (Many f) = decides opens f && (not (can_be_empty f) && apart (further opens f) (first opens f))
decides opens (As h f) = decides opens f
decides opens (Starts cs f) = decides opens f && (not (can_be_empty f) && same cs (first opens f))
decides opens Nested = true
