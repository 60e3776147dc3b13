use Rattle.capdl_write.proofs.Common.{says_then}
use Rattle.capdl_write.proofs.object.write_tcb.Goals as goal

pub returns : goal.returns
returns g c =
    let last = rw (c.as_bytes.ensures.value, c.format.ensures.text) at c.texts.ensures in
    says_then (says_then c.write_registers.ensures c.write_elf.ensures) last
