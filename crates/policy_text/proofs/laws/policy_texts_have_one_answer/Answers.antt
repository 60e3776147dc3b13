use Rattle.policy_text.proofs.OneMeaning.{policies_one}
use Rattle.policy_text.proofs.laws.policy_texts_have_one_answer.Goals as goal

pub returns : goal.returns
returns c = policies_one
