use Rattle.label_flow.proofs.Common.{Edge, List, ap, map, turned, ◌∙◌}
use Rattle.label_flow.proofs.Turning.{turned_twice}
use Rattle.label_flow.proofs.sources.Upstream.of.Goals as goal

pub returns : goal.returns
returns c = ap (λ (es : List Edge). map turned es) c.in_ok-edges.ensures ∙ turned_twice c.args.table.now
