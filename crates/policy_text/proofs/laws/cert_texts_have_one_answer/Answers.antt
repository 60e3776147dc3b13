use Rattle.policy_text.proofs.OneMeaning.{certs_one}
use Rattle.policy_text.proofs.laws.cert_texts_have_one_answer.Goals as goal

pub returns : goal.returns
returns c = certs_one
