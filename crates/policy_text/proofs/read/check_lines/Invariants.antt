use Rattle.policy_text.proofs.Common.{HasFewEdges, IsSeen, [], drop, first_wrong, is_none, knows, take, told_lines, true, ◌≡◌}
use Rattle.policy_text.proofs.read.check_lines.Given as goal

abbrev pub invariant-loop-line : goal.invariant-loop-line
invariant-loop-line l = record {
  seen : IsSeen l.seen (told_lines (take l.line-index l.lines));
  wrong : first_wrong (knows l.known) (told_lines (take l.line-index l.lines)) (told_lines (drop l.line-index l.lines))
      ≡ first_wrong (knows l.known) [] (told_lines l.lines);
  few : is_none l.seen.edges ≡ true → HasFewEdges (told_lines l.lines);
}
