use Rattle.capdl_read.proofs.Kept.{kept_text}
use Rattle.capdl_read.proofs.Names.{text_named}
use Rattle.capdl_read.proofs.laws.texts_are_kept.Goals as goal

pub returns-clause-kept : goal.returns-clause-kept
returns-clause-kept c = kept_text

pub returns-clause-named : goal.returns-clause-named
returns-clause-named c = text_named
