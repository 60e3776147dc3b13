-- Each file of the source has a tree that tokens spell, as each source that is read from files.
use Rattle.std.specs.Prelude.{List}
use Rattle.adl_ast.specs.Spelling.{IsFileSpelled}
use Rattle.adl_meaning.specs.Prelude.{Seen, Source, SourceFile}
use Rattle.cam_base.specs.Gather.{IsIn}

abbrev pub AreSpelled : Source → Type 0
AreSpelled s = (f : SourceFile) → IsIn f s.files → (ts : List Seen) × IsFileSpelled f.tree ts
