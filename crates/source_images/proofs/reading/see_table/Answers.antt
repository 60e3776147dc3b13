use Rattle.source_images.proofs.Common.{AlikeAsRead, LearnsOnly, subst}
use Rattle.cam_io.specs.Causes.{Rose}
use Rattle.source_images.proofs.reading.see_table.Goals as goal

pub returns-clause-read_fault : goal.returns-clause-read_fault
returns-clause-read_fault g c failed =
    let faults = g.F.Files.faults in
    subst (λ name. Rose (faults c.args.files.now name) (faults c.see_whole.new.files name)) c.as_str.ensures.value
    (c.see_whole.ensures.read_fault failed)

pub returns-clause-learned : goal.returns-clause-learned
returns-clause-learned g c =
    subst (λ name. LearnsOnly g.F.Files.told (AlikeAsRead name) c.args.files.now c.see_whole.new.files) c.as_str.ensures.value
    c.see_whole.ensures.learned

pub returns-clause-limit : goal.returns-clause-limit
returns-clause-limit g c = rw c.as_str.ensures.value at c.see_whole.ensures.limit

pub returns-clause-whole : goal.returns-clause-whole
returns-clause-whole g c m told = rw c.as_str.ensures.value at (c.see_whole.ensures.whole m told)
