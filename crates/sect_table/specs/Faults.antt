-- The faults of an ELF file, and the first of them. Sums don't wrap. In this order stand:
--   Magic    the file doesn't begin with the magic
--   Short    it ends before byte 6, at its end
--   Class    bytes 4 and 5 say no class
--   Short    it ends before the end of its fields
--   Size     there are program headers, and their length isn't the class's, at that field
--   Short    it ends before the end of its program headers
--   for each program header that is used, in turn:
--     Size   its file bytes are more than its memory's, or its memory, in whole pages, ends past 2^64 - 1, at the header
--     Short  the file ends before the end of its file bytes
--     Align  it has file bytes, and their places in the file and in memory differ within a page, at the header
--   Limit    there are more than 256 sections
use Rattle.std.specs.Prelude.{ℕ, ◌+◌, ◌*◌, ◌^◌, ◌%◌, ◌==◌, nat_lt, nat_eq, leb, Bool, not, ◌&&◌, ◌||◌, if◌then◌else◌, List, [], ◌∷◌, codes, length, Option, Some, None, Result, Ok, Err}
use Rattle.std.specs.List.{slice_index, starts_with}
use Rattle.std.specs.Option.{option_or, ok_or}
use Rattle.sect_table.specs.Classes.{class_of, fields_end, header_length, length_at}
use Rattle.sect_table.specs.ElfHeaders.{file_header, headers}
use Rattle.sect_table.specs.ElfSections.{is_used, memory_end, page_up, sections_of_all}
use Rattle.sect_table.specs.declared.class.Class.{Class}
use Rattle.sect_table.specs.declared.fault.ElfCode.{ElfCode}
use Rattle.sect_table.specs.declared.fault.ElfCode.TheVariants as code
use Rattle.sect_table.specs.declared.fault.ElfFault.{ElfFault}
use Rattle.sect_table.specs.declared.file_header.FileHeader.{FileHeader}
use Rattle.sect_table.specs.declared.program_header.ProgramHeader.{ProgramHeader}
use Rattle.sect_table.specs.Tables.{sections_limit}

abbrev pub magic : List ℕ
magic = 127 ∷ codes "ELF"

abbrev pub fault : ElfCode → ℕ → ℕ → ElfFault
fault code first end = record { code = code; first = first; end = end }

abbrev pub fault_if : Bool → ElfFault → Option ElfFault
fault_if b f = if b then Some f else None

-- the file ends too early
abbrev pub short : ℕ → ElfFault
short length = fault code.Short length length

-- the class of a file, or the first fault that stands before it is known
abbrev pub class_in : List ℕ → Result Class ElfFault
class_in bytes =
    if not (starts_with nat_eq bytes magic) then Err (fault code.Magic 0 4)
    else if nat_lt (length bytes) 6 then Err (short (length bytes))
    else ok_or (class_of (slice_index bytes 4) (slice_index bytes 5)) (fault code.Class 4 6)

-- there are program headers, of another length than the class's
abbrev pub is_of_another_length : Class → FileHeader → Bool
is_of_another_length class h = not (h.count == 0) && not (h.length == header_length class)

-- there are program headers, and they end past the end of the file
abbrev pub is_past : ℕ → Class → FileHeader → Bool
is_past length class h = not (h.count == 0) && nat_lt length (h.table + h.count * header_length class)

-- the fault of the file's fields and of the program headers' places
abbrev pub table_fault : Class → List ℕ → Option ElfFault
table_fault class bytes =
    if nat_lt (length bytes) (fields_end class) then Some (short (length bytes))
    else if is_of_another_length class (file_header class bytes) then Some
    (fault code.Size (length_at class) (length_at class + 2))
    else fault_if (is_past (length bytes) class (file_header class bytes)) (short (length bytes))

-- it has no more file bytes than memory, and in whole pages the memory ends within 64 bits
abbrev pub is_sized : ProgramHeader → Bool
is_sized h = leb h.file h.memory && nat_lt (page_up (memory_end h)) (2 ^ 64)

-- its file bytes stand in a file of that length
abbrev pub is_whole : ℕ → ProgramHeader → Bool
is_whole length h = h.file == 0 || leb (h.offset + h.file) length

-- its file bytes begin at one place of a page in the file and in memory
abbrev pub is_aligned : ProgramHeader → Bool
is_aligned h = h.file == 0 || h.offset % 4096 == h.vaddr % 4096

abbrev pub fault_of_used : ℕ → ProgramHeader → Option ElfFault
fault_of_used length h =
    if not (is_sized h) then Some (fault code.Size h.first h.end)
    else if not (is_whole length h) then Some (short length)
    else fault_if (not (is_aligned h)) (fault code.Align h.first h.end)

-- the first fault of a program header, in a file of that length
abbrev pub header_fault : ℕ → ProgramHeader → Option ElfFault
header_fault length h = if is_used h then fault_of_used length h else None

-- the first fault of program headers
abbrev pub headers_fault : ℕ → List ProgramHeader → Option ElfFault
headers_fault length [] = None
headers_fault length (h ∷ hs) = option_or (header_fault length h) (headers_fault length hs)

-- there are more sections than a table may have
abbrev pub limit_fault : List ProgramHeader → Option ElfFault
limit_fault hs = fault_if (nat_lt sections_limit (length (sections_of_all hs))) (fault code.Limit 0 0)

-- the first fault of a file of that class
abbrev pub fault_within : List ℕ → Class → Option ElfFault
fault_within bytes class = option_or (table_fault class bytes) (option_or (headers_fault (length bytes) (headers class bytes))
    (limit_fault (headers class bytes)))

abbrev pub fault_behind : List ℕ → Result Class ElfFault → Option ElfFault
fault_behind bytes (Err f) = Some f
fault_behind bytes (Ok class) = fault_within bytes class

-- the first fault of a file
abbrev pub first_fault : List ℕ → Option ElfFault
first_fault bytes = fault_behind bytes (class_in bytes)
