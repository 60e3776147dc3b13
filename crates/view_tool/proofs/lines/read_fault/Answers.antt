use Rattle.view_tool.proofs.Common.{read_fault}
use Rattle.view_tool.proofs.Giving.{fault_given}
use Rattle.view_tool.proofs.lines.read_fault.Goals as goal

pub returns : goal.returns
returns c = fault_given (read_fault c.args.file.now) c.join.result c.read_fault.result c.join.ensures c.read_fault.ensures.ok
    c.read_fault.ensures.none
