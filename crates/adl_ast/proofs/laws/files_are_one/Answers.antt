use Rattle.adl_ast.proofs.Common.{file_line, nested_line, opens, token_code}
use Rattle.adl_ast.proofs.Decides.{nested_is, file_decides}
use Rattle.adl_ast.proofs.Trees.{one_tree}
use Rattle.adl_ast.proofs.laws.files_are_one.Goals as goal

pub returns : goal.returns
returns c = one_tree token_code nested_line opens nested_is file_line file_decides
