use Rattle.adl_ast.proofs.Common.{typed_line, typed_written}
use Rattle.adl_ast.proofs.Agreement.{spelled_agree, depths_agree, begun_agree}
use Rattle.adl_ast.proofs.TypedNames.{typed_to, typed_from}
use Rattle.adl_ast.proofs.Spellings.{typed_parts, typed_written_parts}
use Rattle.adl_ast.proofs.written.typed_names_agree.Goals as goal

pub returns-clause-spelled : goal.returns-clause-spelled
returns-clause-spelled c = spelled_agree typed_line typed_written typed_to typed_from

pub returns-clause-at_any_depth : goal.returns-clause-at_any_depth
returns-clause-at_any_depth c = depths_agree typed_line typed_written typed_to typed_from

pub returns-clause-begun : goal.returns-clause-begun
returns-clause-begun c = begun_agree typed_line typed_written typed_to typed_from typed_parts typed_written_parts
