-- What is read of a file, step by step.
use Rattle.std.specs.Prelude.{◌≡◌, ℕ, List, length, Option, Some, None, Result, Ok, Err}
use Rattle.cam_base.specs.declared.error.Refused.{Refused}
use Rattle.cam_base.specs.declared.error.Refused.TheVariants as refused
use Rattle.sect_table.specs.Faults.{class_in, headers_fault, limit_fault, table_fault}
use Rattle.sect_table.specs.ElfHeaders.{headers}
use Rattle.sect_table.specs.ElfSections.{sections_of_all}
use Rattle.sect_table.specs.declared.class.Class.{Class}
use Rattle.sect_table.specs.declared.fault.ElfFault.{ElfFault}
use Rattle.sect_table.specs.declared.program_header.ProgramHeader.{ProgramHeader}
use Rattle.sect_table.specs.declared.image.Section.{Section}

-- the sections of program headers, or that they are too many, unless memory ran out
abbrev pub AreSectionsRead : List ProgramHeader → Result (List Section) (Refused ElfFault) → Type 0
AreSectionsRead hs (Ok sections) = (limit_fault hs ≡ None) × (sections ≡ sections_of_all hs)
AreSectionsRead hs (Err (refused.Fault fault)) = limit_fault hs ≡ Some fault
AreSectionsRead hs (Err refused.NoMemory) = Unit {0}

-- a fault of the file's fields, or else the first of its program headers
abbrev pub unless_at_fault : Class → Option ElfFault → Option ElfFault → Result Class ElfFault
unless_at_fault class (Some fault) later = Err fault
unless_at_fault class None (Some fault) = Err fault
unless_at_fault class None None = Ok class

abbrev pub sound_behind : List ℕ → Result Class ElfFault → Result Class ElfFault
sound_behind bytes (Err fault) = Err fault
sound_behind bytes (Ok class) = unless_at_fault class (table_fault class bytes)
    (headers_fault (length bytes) (headers class bytes))

-- the class of a file, where neither its fields nor its program headers have a fault; else the first of these
abbrev pub sound_class : List ℕ → Result Class ElfFault
sound_class bytes = sound_behind bytes (class_in bytes)
