-- A line of a section: its name, its address, its size, its rights, and its place in the program's file or - for zeros.
use Rattle.std.specs.Prelude.{ℕ, ◌+◌, ◌%◌, ◌^◌, ◌==◌, nat_lt, Bool, true, false, not, ◌&&◌, ◌||◌, if◌then◌else◌, List, [], ◌∷◌, codes, Option, Some, None}
use Rattle.std.specs.Option.{option_map}
use Rattle.std.specs.Str.{bytes_eq}
use Rattle.cam_base.specs.Names.{is_name}
use Rattle.cam_base.specs.Numbers.{number_value}
use Rattle.sect_table.specs.declared.image.Section.{Section}
use Rattle.cam_base.specs.AllThere.{of_four}

-- whether rights let the program write
abbrev pub writes_of : List ℕ → Option Bool
writes_of word =
    if bytes_eq word (codes "R") || bytes_eq word (codes "RX") then Some false
    else if bytes_eq word (codes "RW") || bytes_eq word (codes "RWX") then Some true
    else None

-- the place in the file, or none
abbrev pub place_of : List ℕ → Option (Option ℕ)
place_of word = if bytes_eq word (codes "-") then Some None else option_map (λ n. Some n) (number_value word)

-- its address, its size, whether it may be written, and its place in the file
abbrev pub numbers_of : List ℕ → List ℕ → List ℕ → List ℕ → Option (ℕ × ℕ × Bool × Option ℕ)
numbers_of vaddr size rights at = of_four (λ vaddr size write at. (vaddr, size, write, at)) (number_value vaddr)
    (number_value size) (writes_of rights) (place_of at)

abbrev pub section : List ℕ → ℕ × ℕ × Bool × Option ℕ → Section
section name (vaddr, size, write, at) = record { name = name; vaddr = vaddr; size = size; write = write; at = at }

-- the section that fields spell
abbrev pub spelled : List (List ℕ) → Option Section
spelled (name ∷ vaddr ∷ size ∷ rights ∷ at ∷ []) = if is_name name then option_map (section name)
    (numbers_of vaddr size rights at) else None
spelled _ = None

-- so many bytes from a number on end within 64 bits
abbrev pub ends_within : ℕ → ℕ → Bool
ends_within first size = nat_lt (first + size) (2 ^ 64)

abbrev pub is_placed : Option ℕ → ℕ → Bool
is_placed None size = true
is_placed (Some at) size = ends_within at size

-- it begins a page, it has bytes, and they end within 64 bits, in memory and in the file
abbrev pub is_sound : Section → Bool
is_sound s = s.vaddr % 4096 == 0 && (not (s.size == 0) && (ends_within s.vaddr s.size && is_placed s.at s.size))

abbrev pub where_sound : Option Section → Option Section
where_sound None = None
where_sound (Some s) = if is_sound s then Some s else None

-- the section that fields spell, where it is sound
abbrev pub section_of : List (List ℕ) → Option Section
section_of fields = where_sound (spelled fields)
