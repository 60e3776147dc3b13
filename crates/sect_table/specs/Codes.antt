-- The faults of ELF files: the letter and number, and the title of each code.
use Rattle.std.specs.Prelude.{ℕ, List, codes}
use Rattle.sect_table.specs.declared.fault.ElfCode.{ElfCode}
use Rattle.sect_table.specs.declared.fault.ElfCode.TheVariants.{Magic, Class, Short, Size, Align, Limit}

abbrev pub word_of : ElfCode → List ℕ
word_of Magic = codes "L1"
word_of Class = codes "L2"
word_of Short = codes "L3"
word_of Size = codes "L4"
word_of Align = codes "L5"
word_of Limit = codes "L6"

abbrev pub title_of : ElfCode → List ℕ
title_of Magic = codes "Magic"
title_of Class = codes "Class"
title_of Short = codes "Short"
title_of Size = codes "Size"
title_of Align = codes "Align"
title_of Limit = codes "Limit"
