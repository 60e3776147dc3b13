-- Each file of the source has a tree that at most 1,048,576 tokens spell, as each file of at most so many bytes has.
use Rattle.std.specs.Prelude.{◌≤◌, List, length}
use Rattle.adl_ast.specs.Spelling.{IsFileSpelled}
use Rattle.adl_meaning.specs.Prelude.{Seen, Source, SourceFile}
use Rattle.cam_base.specs.Gather.{IsIn}

abbrev pub AreFilesShort : Source → Type 0
AreFilesShort s = (f : SourceFile) → IsIn f s.files → (ts : List Seen) × IsFileSpelled f.tree ts × (length ts ≤ 1048576)
