use Rattle.view_tool.proofs.Common.{IfOk, graph_of, subst, ◌≡◌}
use Rattle.view_tool.proofs.Noting.{notes_drawn}
use Rattle.view_tool.proofs.source.draw_reasons.Goals as goal

pub returns-in-Ok : goal.returns-in-Ok
returns-in-Ok c =
    let f = c.args.front.now in
    let drawn = subst (λ ns. IfOk c.graph_of.result (λ t. t ≡ graph_of f.policy ns)) c.as_slice.ensures c.graph_of.ensures in
    notes_drawn f c.in-Ok.notes c.graph_of.result c.shown.result c.in-Ok.ensures drawn c.shown.ensures.ok c.shown.ensures.none
