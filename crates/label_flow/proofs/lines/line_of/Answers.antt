use Rattle.label_flow.proofs.Common.{is_source}
use Rattle.label_flow.proofs.lines.line_of.Goals as goal

pub returns : goal.returns
returns c = (is_source c.in_ok-sources.sources, c.in_ok-sources.ensures, c.in_ok-line.ensures)
