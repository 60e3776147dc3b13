use Rattle.step_text.proofs.EachLine.{each_line_spells}
use Rattle.step_text.proofs.laws.lines_spell_steps.Goals as goal

pub returns : goal.returns
returns c = each_line_spells
