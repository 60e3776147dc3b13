use Rattle.view_tool.proofs.PageCommon.{ap, page_text, told, ◌++◌, ◌∙◌}
use Rattle.view_tool.proofs.page.page_text.Goals as goal

pub returns : goal.returns
returns c = c.in_ok-add_parts.ensures ∙ ap (λ t. t ++ page_text (told c.args.page.now)) c.new-text.ensures
