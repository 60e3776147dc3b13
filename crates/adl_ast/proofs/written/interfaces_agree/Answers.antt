use Rattle.adl_ast.proofs.Common.{interface_line, interface_written}
use Rattle.adl_ast.proofs.Agreement.{spelled_agree, depths_agree, begun_agree}
use Rattle.adl_ast.proofs.Interfaces.{interface_to, interface_from}
use Rattle.adl_ast.proofs.Spellings.{interface_parts, interface_written_parts}
use Rattle.adl_ast.proofs.written.interfaces_agree.Goals as goal

pub returns-clause-spelled : goal.returns-clause-spelled
returns-clause-spelled c = spelled_agree interface_line interface_written interface_to interface_from

pub returns-clause-at_any_depth : goal.returns-clause-at_any_depth
returns-clause-at_any_depth c = depths_agree interface_line interface_written interface_to interface_from

pub returns-clause-begun : goal.returns-clause-begun
returns-clause-begun c = begun_agree interface_line interface_written interface_to interface_from interface_parts
    interface_written_parts
