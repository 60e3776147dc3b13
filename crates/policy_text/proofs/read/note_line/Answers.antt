use Rattle.policy_text.proofs.Common.{ap, meant, option_map, sym, ◌∙◌}
use Rattle.policy_text.proofs.read.note_line.Goals as goal

pub returns-in_ok-add-in-Some : goal.returns-in_ok-add-in-Some
returns-in_ok-add-in-Some c = (
  meant c.in-Some.entry,
  sym c.read_entry.ensures ∙ ap (option_map meant) c.in-Some.is,
  c.in_ok-add-in-Some.ensures,
)
