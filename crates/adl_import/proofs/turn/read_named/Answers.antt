use Rattle.adl_import.proofs.Common.{AlikeAsRead, LearnsOnly, subst, ◌∙◌}
use Rattle.cam_io.specs.Causes.{Rose}
use Rattle.adl_import.proofs.turn.read_named.Goals as goal

pub returns-clause-read_fault : goal.returns-clause-read_fault
returns-clause-read_fault g c failed =
    let faults = g.F.Files.faults in
    let named = c.as_text.ensures ∙ c.as_bytes.ensures in
    subst (λ name. Rose (faults c.args.files.now name) (faults c.read_path.new.files name)) named
    (c.read_path.ensures.read_fault failed)

pub returns-clause-learned : goal.returns-clause-learned
returns-clause-learned g c =
    let named = c.as_text.ensures ∙ c.as_bytes.ensures in
    subst (λ name. LearnsOnly g.F.Files.told (AlikeAsRead name) c.args.files.now c.read_path.new.files) named
    c.read_path.ensures.learned

pub returns-clause-whole : goal.returns-clause-whole
returns-clause-whole g c m told =
    let named = c.as_text.ensures ∙ c.as_bytes.ensures in
    rw named at (c.read_path.ensures.whole m told)
