-- The program headers that are left to an iterator.
use Rattle.std.specs.Prelude.{List}
use Rattle.sect_table.specs.ElfHeaders.{headers_from}
use Rattle.sect_table.specs.declared.program_header.ProgramHeader.{ProgramHeader}
use Rattle.sect_table.specs.declared.program_headers.ProgramHeaders.{ProgramHeaders}

abbrev pub headers_left : ProgramHeaders → List ProgramHeader
headers_left h = headers_from h.class h.bytes.now h.number h.first h.left
