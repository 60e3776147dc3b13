-- The faults of tables' lines stand in the order of the tables, so that the first of them in the list is the first fault.
use Rattle.source_images.proofs.Common.{Arch, Bool, Fault, Found, Header, Line, List, None, Option, Some, [], absent, ap, arith, at_first_line, bad_line, cond, earlier, earlier_assoc, false, fault_in, first_bad, header_of, least, line_fault}
use Rattle.source_images.proofs.Common.{line_faults, listed, nat_eq, nat_lt, nat_tests, option_map, option_or, refl, rules, spaced_fields, sym, table, too_long, true, ℕ, ◌++◌, ◌+◌, ◌<◌, ◌∙◌, ◌∷◌, ◌≡◌, ◌≤◌}
use Rattle.cam_base.specs.Codes.{number_of}

-- the first fault of two lists
pub least-append : (xs ys : List Fault) → least (xs ++ ys) ≡ earlier (least xs) (least ys)
least-append [] ys = refl
least-append (x ∷ xs) ys = ap (earlier (Some x)) (least-append xs ys) ∙ sym (earlier_assoc (Some x) (least xs) (least ys))

-- whatever fault it is, it stands in this file or a later one
abbrev pub StandsFrom : ℕ → Option Fault → Type 0
StandsFrom file None = Unit {0}
StandsFrom file (Some f) = file ≤ f.place.file

abbrev pub StandsIn : ℕ → Option Fault → Type 0
StandsIn file None = Unit {0}
StandsIn file (Some f) = f.place.file ≡ file

bad_stands : (file : ℕ) (o : Option Line) → StandsIn file (option_map (bad_line file) o)
bad_stands file None = tt
bad_stands file (Some line) = refl

fault_stands_in : (file n : ℕ) (ls : List Line) → StandsIn file (fault_in file n ls)
fault_stands_in file n [] = refl
fault_stands_in file n (line ∷ more) = by_header (header_of (spaced_fields line.text))
  where
    by_header : (h : Option Header)
        → StandsIn file (cond (elim h [ None ↦ false | Some x ↦ true ]) (option_map (bad_line file) (first_bad 0 more))
        (Some (bad_line file line)))
    by_header None = refl
    by_header (Some h) = bad_stands file (first_bad 0 more)

first_line_stands : (file : ℕ) (ls : List Line) → StandsIn file (at_first_line file ls)
first_line_stands file [] = tt
first_line_stands file (line ∷ more) = refl

or_stands : (file : ℕ) (a b : Option Fault) → StandsIn file a → StandsIn file b → StandsIn file (option_or a b)
or_stands file None b s t = t
or_stands file (Some f) b s t = s

where_stands : (file : ℕ) (b : Bool) (a : Option Fault) → StandsIn file a → StandsIn file (cond b a None)
where_stands file true a s = s
where_stands file false a s = tt

line_stands : (first : Option Arch) (file : ℕ) (x : Found) → StandsIn file (line_fault first file x)
line_stands first file absent = tt
line_stands first file too_long = tt
line_stands first file (table bytes) = search (rules, or_stands, fault_stands_in, where_stands, first_line_stands)

later : (file n : ℕ) (o : Option Fault) → n ≤ file → StandsFrom file o → StandsFrom n o
later file n None h s = tt
later file n (Some f) h s = omega arith

-- a fault in an earlier file comes first
stays : (file : ℕ) (f : Fault) (o : Option Fault) → f.place.file ≡ file → StandsFrom (file + 1) o → earlier (Some f) o ≡ Some f
stays file f None e s = refl
stays file f (Some g) e s = ap (λ b. cond b (Some g) (Some f)) (not_before g.place.file g.place.first (number_of g.code)
    f.place.file f.place.first (number_of f.code) (omega arith))
  where
    not_before : (a b c x y z : ℕ) → x < a → cond (nat_eq a x) (cond (nat_eq b y) (nat_lt c z) (nat_lt b y)) (nat_lt a x) ≡ false
    not_before a b c x y z h = grind (arith, nat_tests)

joined : (file : ℕ) (a o : Option Fault) → StandsIn file a → StandsFrom (file + 1) o
    → earlier (least (listed a)) o ≡ option_or a o
joined file None o s t = refl
joined file (Some f) o s t = stays file f o s t

from_or : (file : ℕ) (a o : Option Fault) → StandsIn file a → StandsFrom (file + 1) o → StandsFrom file (option_or a o)
from_or file None o s t = later (file + 1) file o (omega arith) t
from_or file (Some f) o s t = omega arith

-- the first fault of lines
abbrev pub first_line_fault : Option Arch → ℕ → List Found → Option Fault
first_line_fault first file [] = None
first_line_fault first file (x ∷ more) = option_or (line_fault first file x) (first_line_fault first (file + 1) more)

stand_from : (first : Option Arch) (file : ℕ) (all : List Found) → StandsFrom file (first_line_fault first file all)
stand_from first file [] = tt
stand_from first file (x ∷ more) = from_or file (line_fault first file x) (first_line_fault first (file + 1) more)
    (line_stands first file x) (stand_from first (file + 1) more)

pub least-line_faults : (first : Option Arch) (file : ℕ) (all : List Found)
    → least (line_faults first file all) ≡ first_line_fault first file all
least-line_faults first file [] = refl
least-line_faults first file (x ∷ more) =
    least-append (listed (line_fault first file x)) (line_faults first (file + 1) more)
    ∙ ap (earlier (least (listed (line_fault first file x)))) (least-line_faults first (file + 1) more)
    ∙ joined file (line_fault first file x) (first_line_fault first (file + 1) more) (line_stands first file x)
    (stand_from first (file + 1) more)
