-- The headers of a file. The program headers stand one behind another, from the place on that the file's header says.
use Rattle.std.specs.Prelude.{ℕ, zero, suc, ◌+◌, List, [], ◌∷◌}
use Rattle.sect_table.specs.Classes.{header_length}
use Rattle.sect_table.specs.Fields.{field}
use Rattle.sect_table.specs.declared.class.Class.{Class}
use Rattle.sect_table.specs.declared.class.Class.TheVariants.{Bits32, Bits64}
use Rattle.sect_table.specs.declared.file_header.FileHeader.{FileHeader}
use Rattle.sect_table.specs.declared.program_header.ProgramHeader.{ProgramHeader}

abbrev pub file_header : Class → List ℕ → FileHeader
file_header Bits32 bytes = record {
  entry = field bytes 24 4;
  table = field bytes 28 4;
  length = field bytes 42 2;
  count = field bytes 44 2;
}
file_header Bits64 bytes = record {
  entry = field bytes 24 8;
  table = field bytes 32 8;
  length = field bytes 54 2;
  count = field bytes 56 2;
}

-- the program header of that number, which begins at a place
abbrev pub program_header : Class → List ℕ → ℕ → ℕ → ProgramHeader
program_header Bits32 bytes number first = record {
  number = number;
  first = first;
  end = first + 32;
  kind = field bytes first 4;
  offset = field bytes (first + 4) 4;
  vaddr = field bytes (first + 8) 4;
  file = field bytes (first + 16) 4;
  memory = field bytes (first + 20) 4;
  flags = field bytes (first + 24) 4;
}
program_header Bits64 bytes number first = record {
  number = number;
  first = first;
  end = first + 56;
  kind = field bytes first 4;
  offset = field bytes (first + 8) 8;
  vaddr = field bytes (first + 16) 8;
  file = field bytes (first + 32) 8;
  memory = field bytes (first + 40) 8;
  flags = field bytes (first + 4) 4;
}

-- so many program headers, from that number and that place on
abbrev pub headers_from : Class → List ℕ → ℕ → ℕ → ℕ → List ProgramHeader
headers_from class bytes number first zero = []
headers_from class bytes number first (suc left) = program_header class bytes number first ∷ headers_from class bytes (number + 1)
    (first + header_length class) left

-- the program headers of a file
abbrev pub headers : Class → List ℕ → List ProgramHeader
headers class bytes = headers_from class bytes 0 (file_header class bytes).table (file_header class bytes).count
