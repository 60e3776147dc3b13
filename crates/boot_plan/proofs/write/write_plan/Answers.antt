use Rattle.boot_plan.proofs.Common.{rules, said_all, says_then}
use Rattle.boot_plan.specs.Texts.{plan_text}
use Rattle.boot_plan.proofs.write.write_plan.Goals as goal

pub returns : goal.returns
unfolding plan_text
returns g c =
    let planned = rw (
      c.as_bytes.ensures.value,
      c.as_bytes-2.ensures.value,
      c.format.ensures.text,
      c.format-2.ensures.text,
      c.objects_placed.ensures,
      c.bytes_placed.ensures,
      c.as_slice-places.ensures,
    ) at c.texts.ensures in
    let lines = rw c.as_slice-places.ensures at c.write_places.ensures in
    said_all c.new-to.ensures.channel c.new-to.ensures.said (says_then planned lines) c.flush.ensures (search rules)
