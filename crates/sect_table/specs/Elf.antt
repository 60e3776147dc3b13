-- Images of ELF files. A file without a fault is related to one image: of its class's architecture, with the entry of its
-- header, and with the sections of its program headers in their order.
use Rattle.std.specs.Prelude.{◌≡◌, ℕ, List, Some, None, Result, Ok, Err}
use Rattle.cam_base.specs.declared.error.Refused.{Refused}
use Rattle.cam_base.specs.declared.error.Refused.TheVariants as refused
use Rattle.sect_table.specs.Classes.{arch_of}
use Rattle.sect_table.specs.Faults.{class_in, first_fault}
use Rattle.sect_table.specs.ElfHeaders.{file_header, headers}
use Rattle.sect_table.specs.ElfSections.{sections_of_all}
use Rattle.sect_table.specs.declared.class.Class.{Class}
use Rattle.sect_table.specs.declared.fault.ElfFault.{ElfFault}
use Rattle.sect_table.specs.declared.image.Image.{Image}

abbrev pub image_of : List ℕ → List ℕ → Class → Image
image_of name bytes class = record {
  name = name;
  arch = arch_of class;
  entry = (file_header class bytes).entry;
  sections = sections_of_all (headers class bytes);
}

-- the image of a file, under a name
pub record Elf (name bytes : List ℕ) (image : Image) : Type 0 where
  pub sound : first_fault bytes ≡ None
  pub class : Class
  pub known : class_in bytes ≡ Ok class
  pub is : image ≡ image_of name bytes class

-- What a reader answers: the image, or the first fault, or that memory ran out.
abbrev pub IsRead : List ℕ → List ℕ → Result Image (Refused ElfFault) → Type 0
IsRead name bytes (Ok image) = Elf name bytes image
IsRead name bytes (Err (refused.Fault fault)) = first_fault bytes ≡ Some fault
IsRead name bytes (Err refused.NoMemory) = Unit {0}
