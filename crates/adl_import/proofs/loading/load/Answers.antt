use Rattle.adl_import.proofs.Common.{Some, root_name, subst, ◌≡◌}
use Rattle.adl_import.proofs.Utf8Names.{root_name_utf8}
use Rattle.adl_import.proofs.loading.load.Goals as goal

pub load_from-requires : goal.load_from-requires
load_from-requires g c = root_name_utf8 c.as_bytes.result.now c.in-Ok.name c.in-Ok.ensures

pub returns-in-Ok-clause-learned : goal.returns-in-Ok-clause-learned
returns-in-Ok-clause-learned g c m n now old alike =
    c.load_from.ensures.learned m n now old
    (alike c.in-Ok.name (subst (λ root. root_name root ≡ Some c.in-Ok.name) c.as_bytes.ensures.value c.in-Ok.ensures))
