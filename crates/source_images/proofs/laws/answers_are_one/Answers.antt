use Rattle.source_images.proofs.OneAnswer.{one_answer}
use Rattle.source_images.proofs.laws.answers_are_one.Goals as goal

pub returns : goal.returns
returns c = one_answer
