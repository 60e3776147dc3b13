use Rattle.view_tool.proofs.Common.{sym, told, ◌∙◌}
use Rattle.view_tool.proofs.Noting.{few_notes, no_notes}
use Rattle.view_tool.proofs.reasons.page_notes.Goals as goal

pub returns-then-are_few : goal.returns-then-are_few
returns-then-are_few c = few_notes (told c.args.grounds.now) c.notes_of.result (sym c.are_few.ensures ∙ c.if-are_few.true)
    c.notes_of.ensures

pub returns-else-are_few : goal.returns-else-are_few
returns-else-are_few c = no_notes (told c.args.grounds.now) c.new.result (sym c.are_few.ensures ∙ c.if-are_few.false)
    c.new.ensures
