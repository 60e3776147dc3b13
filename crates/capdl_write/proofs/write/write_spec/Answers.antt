use Rattle.capdl_write.proofs.Common.{rules, said_all, says_then}
use Rattle.cap_model.specs.Canonical.{canonical}
use Rattle.capdl_write.proofs.write.write_spec.Goals as goal

pub returns : goal.returns
unfolding canonical
returns g c =
    let head = rw c.arch_word.ensures at c.texts.ensures in
    let objects = rw c.as_slice.ensures at c.write_objects.ensures in
    let holders = rw c.as_slice-2.ensures at c.write_holders.ensures in
    let lines = rw c.as_slice-3.ensures at c.write_irqs.ensures in
    let front = says_then (says_then (says_then head objects) c.text.ensures) holders in
    let all = says_then (says_then (says_then front c.text-2.ensures) lines) c.text-3.ensures in
    said_all c.new-to.ensures.channel c.new-to.ensures.said all c.flush.ensures (search rules)
