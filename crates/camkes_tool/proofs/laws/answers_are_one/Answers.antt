use Rattle.camkes_tool.proofs.Choices.{chosen_by}
use Rattle.camkes_tool.proofs.OneAnswer.{one_asked, one_call}
use Rattle.camkes_tool.proofs.laws.answers_are_one.Goals as goal

pub returns-clause-answers : goal.returns-clause-answers
returns-clause-answers c = one_asked

pub returns-clause-calls : goal.returns-clause-calls
returns-clause-calls c = one_call

pub returns-clause-choices : goal.returns-clause-choices
returns-clause-choices c m asked old new a x is = chosen_by m old new a asked x is
