use Rattle.adl_parse.proofs.Answering.{one_answer}
use Rattle.adl_parse.proofs.laws.file_answers_are_one.Goals as goal

pub returns : goal.returns
returns c = one_answer
