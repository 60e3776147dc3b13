use Rattle.adl_ast.proofs.Common.{params_line, params_written}
use Rattle.adl_ast.proofs.Agreement.{spelled_agree, depths_agree, begun_agree}
use Rattle.adl_ast.proofs.MethodParams.{params_to, params_from}
use Rattle.adl_ast.proofs.Spellings.{params_parts, params_written_parts}
use Rattle.adl_ast.proofs.written.params_agree.Goals as goal

pub returns-clause-spelled : goal.returns-clause-spelled
returns-clause-spelled c = spelled_agree params_line params_written params_to params_from

pub returns-clause-at_any_depth : goal.returns-clause-at_any_depth
returns-clause-at_any_depth c = depths_agree params_line params_written params_to params_from

pub returns-clause-begun : goal.returns-clause-begun
returns-clause-begun c = begun_agree params_line params_written params_to params_from params_parts params_written_parts
