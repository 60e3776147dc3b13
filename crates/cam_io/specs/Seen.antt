-- What the host has answered of names: nothing yet, that a name has no file, the bytes at a file's beginning, or all of them. The
-- first entry of a name is the name's.
use Rattle.std.specs.Prelude.{◌≡◌, ◌<◌, ◌≤◌, ℕ, ◌+◌, ◌-◌, cond, List, [], ◌∷◌, ◌++◌, length, take, Option, None, Some}
use Rattle.std.specs.FinMap.{empty, get, insert, remove}
use Rattle.std.specs.Option.{option_map}
use Rattle.std.specs.Str.{bytes_eq}
use Rattle.cam_io.specs.Contents.{Contents}
use Rattle.cam_io.specs.declared.seen.Extent.{Extent}
use Rattle.cam_io.specs.declared.seen.Extent.TheVariants.{Unasked, Absent, Begun, Whole, Given}
use Rattle.cam_io.specs.declared.seen.Seen.{Seen}

-- the entry of a name
abbrev pub seen_of : List Seen → List ℕ → Option Seen
seen_of [] name = None
seen_of (s ∷ ss) name = cond (bytes_eq name s.name) (Some s) (seen_of ss name)

-- the same entries with this one in the name's place
abbrev pub replaced : List Seen → List ℕ → Seen → List Seen
replaced [] name t = []
replaced (s ∷ ss) name t = cond (bytes_eq name s.name) (t ∷ ss) (s ∷ replaced ss name t)

-- the file has what was seen
abbrev pub HasSeen : Extent → List ℕ → Option (List ℕ) → Type 0
HasSeen Unasked bytes file = Unit {0}
HasSeen Absent bytes file = file ≡ None
HasSeen Begun bytes file = (rest : List ℕ) × (file ≡ Some (bytes ++ rest))
HasSeen Whole bytes file = file ≡ Some bytes
HasSeen (Given all) bytes file = file ≡ Some all.value.items

-- of a name of which nothing was seen, any file has it
abbrev pub HasAny : Option Seen → Option (List ℕ) → Type 0
HasAny None file = Unit {0}
HasAny (Some s) file = HasSeen s.extent s.bytes.items file

-- all bytes of the file, where they were seen
abbrev pub whole_of : Extent → List ℕ → Option (List ℕ)
whole_of Unasked bytes = None
whole_of Absent bytes = None
whole_of Begun bytes = None
whole_of Whole bytes = Some bytes
whole_of (Given all) bytes = None

abbrev pub whole_of_any : Option Seen → Option (List ℕ)
whole_of_any None = None
whole_of_any (Some s) = whole_of s.extent s.bytes.items

-- the contents have what was seen of each name
abbrev pub Agrees : List Seen → Contents → Type 0
Agrees seen m = (name : List ℕ) → HasAny (seen_of seen name) (get m name)

-- all that is seen later was so before
abbrev pub Grows : Seen → Seen → Type 0
Grows before now = (file : Option (List ℕ)) → HasSeen now.extent now.bytes.items file
    → HasSeen before.extent before.bytes.items file

-- no more was learned than the first bytes of the file, so many, or that there is none
abbrev pub Learns : Seen → Seen → ℕ → Type 0
Learns before now count =
    (file other : Option (List ℕ)) → HasSeen now.extent now.bytes.items file → HasSeen before.extent before.bytes.items other
    → option_map (take count) file ≡ option_map (take count) other → HasSeen now.extent now.bytes.items other

abbrev pub with_seen : Extent → List ℕ → List ℕ → Contents → Contents
with_seen Unasked name bytes m = m
with_seen Absent name bytes m = remove m name
with_seen Begun name bytes m = insert m name bytes
with_seen Whole name bytes m = insert m name bytes
with_seen (Given all) name bytes m = insert m name all.value.items

-- contents that have what was seen, and nothing else
abbrev pub least : List Seen → Contents
least [] = empty
least (s ∷ ss) = with_seen s.extent s.name s.bytes.items (least ss)

-- what was seen answers a read at this place
abbrev pub IsReached : Extent → List ℕ → ℕ → Type 0
IsReached Unasked bytes at = ⊥
IsReached Absent bytes at = Unit {0}
IsReached Begun bytes at = at < length bytes
IsReached Whole bytes at = Unit {0}
IsReached (Given all) bytes at = ⊥

-- what was seen ends before this place, or was given away
abbrev pub IsBehind : Extent → List ℕ → ℕ → Type 0
IsBehind Unasked bytes at = Unit {0}
IsBehind Absent bytes at = ⊥
IsBehind Begun bytes at = length bytes ≤ at
IsBehind Whole bytes at = ⊥
IsBehind (Given all) bytes at = Unit {0}

-- how many reads may still be wanted before a place is reached
abbrev pub wanted : Extent → ℕ → ℕ → ℕ
wanted Unasked count at = at + 2
wanted Absent count at = 0
wanted Begun count at = (at + 1) - count
wanted Whole count at = 0
wanted (Given all) count at = 0
