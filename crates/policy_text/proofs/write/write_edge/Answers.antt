-- write_edge
use Rattle.policy_text.proofs.Common.{says_more}
use Rattle.cam_base.specs.Texts.{together}
use Rattle.policy_text.proofs.write.write_edge.Goals as goal

pub returns : goal.returns
unfolding together
returns g c =
    let from = rw c.requires at c.text-3.ensures in
    let more = rw (c.as_bytes-word.ensures.value, c.text.ensures, c.as_bytes-end.ensures.value, c.format.ensures.text) at
    c.texts.ensures in
    says_more c.text-2.ensures (says_more from more)
