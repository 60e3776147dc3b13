use Rattle.adl_ast.proofs.OneKind.{one_kind}
use Rattle.adl_ast.proofs.laws.codes_tell_kinds.Goals as goal

pub returns : goal.returns
returns c = one_kind
