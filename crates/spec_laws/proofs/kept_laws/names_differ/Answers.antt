use Rattle.spec_laws.proofs.Telling.{names_tell}
use Rattle.spec_laws.proofs.kept_laws.names_differ.Goals as goal

pub returns : goal.returns
returns c = λ t m n p q fit e f same. names_tell t fit.connections fit.objects m n p q e f same
