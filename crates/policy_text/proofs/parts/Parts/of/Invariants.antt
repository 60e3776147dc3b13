use Rattle.policy_text.proofs.Common.{IsBuilt, take, told_lines}
use Rattle.policy_text.proofs.parts.Parts.of.Given as goal

abbrev pub invariant-loop-line : goal.invariant-loop-line
invariant-loop-line l = IsBuilt l.parts (told_lines (take l.line-index l.lines))
