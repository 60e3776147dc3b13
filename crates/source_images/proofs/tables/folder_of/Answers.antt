use Rattle.source_images.proofs.Common.{None, Some, lit<, sym}
use Rattle.std.proofs.lemmas.Str.Pattern.{rfind_char}
use Rattle.source_images.proofs.NameTexts.{folder_found, folder_of-none}
use Rattle.source_images.proofs.tables.folder_of.Goals as goal

pub returns-in-Some : goal.returns-in-Some
returns-in-Some c = folder_found c.args.name.now c.range.result.now c.in-Some.at c.range.ensures.value
    (rfind_char 47 c.args.name.now (Some c.in-Some.at) c.in-Some.ensures.cases (lit< tt))

pub returns-in-None : goal.returns-in-None
returns-in-None c = sym (folder_of-none c.args.name.now (rfind_char 47 c.args.name.now None c.in-None.ensures.cases (lit< tt)))
