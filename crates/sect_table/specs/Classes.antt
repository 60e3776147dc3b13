-- The classes of ELF files: byte 4 is 1 for 32 bits and 2 for 64, byte 5 is 1 for little endian.
use Rattle.std.specs.Prelude.{ℕ, ◌==◌, if◌then◌else◌, Option, Some, None}
use Rattle.cap_model.specs.declared.level.Arch.{Arch}
use Rattle.cap_model.specs.declared.level.Arch.TheVariants.{Arm11, Aarch64}
use Rattle.sect_table.specs.declared.class.Class.{Class}
use Rattle.sect_table.specs.declared.class.Class.TheVariants.{Bits32, Bits64}

-- the class that the two bytes say
abbrev pub class_of : ℕ → ℕ → Option Class
class_of class order = if order == 1 then (if class == 1 then Some Bits32 else if class == 2 then Some Bits64 else None) else None

abbrev pub arch_of : Class → Arch
arch_of Bits32 = Arm11
arch_of Bits64 = Aarch64

-- where the length of a program header stands, in two bytes
abbrev pub length_at : Class → ℕ
length_at Bits32 = 42
length_at Bits64 = 54

-- the end of the fields of a file: their last is the count of the program headers, in two bytes
abbrev pub fields_end : Class → ℕ
fields_end Bits32 = 46
fields_end Bits64 = 58

-- the length of a program header
abbrev pub header_length : Class → ℕ
header_length Bits32 = 32
header_length Bits64 = 56
