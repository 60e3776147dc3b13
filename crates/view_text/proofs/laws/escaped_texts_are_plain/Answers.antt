use Rattle.view_text.proofs.Escaped.{escaped_plain}
use Rattle.view_text.proofs.laws.escaped_texts_are_plain.Goals as goal

pub returns : goal.returns
returns c = escaped_plain
