-- The sections of an image. A program header is used where it is one to load and has memory. Its file bytes are a section
-- of its own from the page on in which they begin; the pages behind them, or all where it has no file bytes, are zeros.
use Rattle.std.specs.Prelude.{ℕ, ◌+◌, ◌-◌, ◌*◌, ◌/◌, ◌%◌, ◌==◌, nat_lt, Bool, not, ◌&&◌, if◌then◌else◌, List, [], ◌∷◌, ◌++◌, codes, decimal, Some, None}
use Rattle.std.specs.List.{flat_map}
use Rattle.sect_table.specs.declared.program_header.ProgramHeader.{ProgramHeader}
use Rattle.sect_table.specs.declared.image.Section.{Section}

-- the number of bytes rounded down, and up, to whole pages
abbrev pub page_down : ℕ → ℕ
page_down n = n / 4096 * 4096

abbrev pub page_up : ℕ → ℕ
page_up n = page_down (n + 4095)

abbrev pub is_used : ProgramHeader → Bool
is_used h = h.kind == 1 && not (h.memory == 0)

-- the ends, in memory, of its file bytes and of all its bytes
abbrev pub file_end : ProgramHeader → ℕ
file_end h = h.vaddr + h.file

abbrev pub memory_end : ProgramHeader → ℕ
memory_end h = h.vaddr + h.memory

-- the flag W, which is bit 1
abbrev pub is_writable : ProgramHeader → Bool
is_writable h = h.flags / 2 % 2 == 1

-- the section of its file bytes
abbrev pub loaded : ProgramHeader → Section
loaded h = record {
  name = codes "load_" ++ decimal h.number;
  vaddr = page_down h.vaddr;
  size = file_end h - page_down h.vaddr;
  write = is_writable h;
  at = Some (h.offset - (h.vaddr - page_down h.vaddr));
}

-- zeros from an address up to the end of its memory
abbrev pub zeros : ProgramHeader → ℕ → Section
zeros h first = record {
  name = codes "zero_" ++ decimal h.number;
  vaddr = first;
  size = memory_end h - first;
  write = is_writable h;
  at = None;
}

-- the zeros behind its file bytes
abbrev pub zeros_behind : ProgramHeader → List Section
zeros_behind h = if nat_lt (page_up (file_end h)) (memory_end h) then zeros h (page_up (file_end h)) ∷ [] else []

abbrev pub sections_of_used : ProgramHeader → List Section
sections_of_used h = if h.file == 0 then zeros h (page_down h.vaddr) ∷ [] else loaded h ∷ zeros_behind h

abbrev pub sections_of : ProgramHeader → List Section
sections_of h = if is_used h then sections_of_used h else []

abbrev pub sections_of_all : List ProgramHeader → List Section
sections_of_all = flat_map sections_of
