-- The order of faults: by file, then by first byte, then by the number of the code. The first of a list of faults is the
-- least of them; of faults that stand alike, it is the one that comes first in the list.
use Rattle.std.specs.Prelude.{◌≡◌, ◌==◌, Bool, true, if◌then◌else◌, nat_lt, List, [], ◌∷◌, Option, Some, None, Result, Ok, Err}
use Rattle.adl_meaning.specs.Below.{Fault, Id, Place}
use Rattle.cam_base.specs.Codes.{number_of}
use Rattle.cam_base.specs.declared.code.Code.{Code}
use Rattle.cam_base.specs.declared.error.Refused.{Refused}
use Rattle.cam_base.specs.declared.error.Refused.TheVariants as refused

-- whether a fault of this code at this place comes before one of the other code at the other place
abbrev pub is_before : Code → Place → Code → Place → Bool
is_before c p d q =
    if p.file == q.file
    then (if p.first == q.first then nat_lt (number_of c) (number_of d) else nat_lt p.first q.first)
    else nat_lt p.file q.file

abbrev pub precedes : Fault → Fault → Bool
precedes f g = is_before f.code f.place g.code g.place

-- the earlier of two, and of two that stand alike the left one
abbrev pub earlier : Option Fault → Option Fault → Option Fault
earlier None b = b
earlier (Some f) None = Some f
earlier (Some f) (Some g) = if precedes g f then Some g else Some f

-- the first fault of a list
abbrev pub least : List Fault → Option Fault
least [] = None
least (f ∷ fs) = earlier (Some f) (least fs)

-- the first fault, where this one was first and then those of a list were noted
abbrev pub noted : Option Fault → List Fault → Option Fault
noted first [] = first
noted first (f ∷ fs) = noted (earlier first (Some f)) fs

-- whether a fault of this code at this place comes before what was first
abbrev pub comes_first : Option Fault → Code → Place → Bool
comes_first None c p = true
comes_first (Some f) c p = is_before c p f.code f.place

-- Ok exactly where there is no fault, else the first. Want of memory is free.
abbrev pub Refuses : {T : Type 0} → Result T (Refused Fault) → Option Fault → Type 0
Refuses (Ok x) first = first ≡ None
Refuses (Err (refused.Fault f)) first = first ≡ Some f
Refuses (Err refused.NoMemory) first = Unit {0}

-- ---- writing faults down

-- a fault at a word, which is its name
abbrev pub at_word : Code → Id → Fault
at_word c w = record { code = c; place = w.place; name = w.name }

-- a fault at a keyword, which has no name
abbrev pub at_keyword : Code → Place → Fault
at_keyword c p = record { code = c; place = p; name = [] }

-- the fault, where the test holds
abbrev pub where_true : Bool → Fault → List Fault
where_true b f = if b then f ∷ [] else []

-- the fault, where the test doesn't hold
abbrev pub where_false : Bool → Fault → List Fault
where_false b f = if b then [] else f ∷ []
