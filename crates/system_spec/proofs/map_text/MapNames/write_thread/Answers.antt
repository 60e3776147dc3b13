-- write_thread
use Rattle.system_spec.proofs.Common.{says_then}
use Rattle.system_spec.proofs.map_text.MapNames.write_thread.Goals as goal

pub returns-in-None : goal.returns-in-None
returns-in-None g c =
    let path = rw c.leaf_path.ensures at c.write_path.ensures in
    let more = rw c.name-tcb.ensures at c.texts.ensures in
    rw c.in-None.is (says_then (says_then c.text.ensures path) more)

pub returns-in-Some : goal.returns-in-Some
returns-in-Some g c =
    let more = rw c.name-tcb.ensures at c.texts-in-Some.ensures in
    rw c.in-Some.is (says_then (says_then c.text.ensures c.write_end.ensures) more)
