use Rattle.capdl_text.proofs.Answered.{read_text, read_fault}
use Rattle.capdl_text.proofs.laws.texts_are_read.Goals as goal

pub returns-clause-spec : goal.returns-clause-spec
returns-clause-spec c = read_text

pub returns-clause-fault : goal.returns-clause-fault
returns-clause-fault c = read_fault
