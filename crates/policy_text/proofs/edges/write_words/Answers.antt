-- write_words
use Rattle.cam_base.specs.Texts.{together}
use Rattle.policy_text.proofs.edges.write_words.Goals as goal

pub returns : goal.returns
unfolding together
returns g c = c.texts.ensures
