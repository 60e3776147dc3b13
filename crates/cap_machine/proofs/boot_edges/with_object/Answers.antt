use Rattle.cap_machine.proofs.boot_edges.with_object.Goals as goal

pub returns-in-Thread : goal.returns-in-Thread
returns-in-Thread c = rw (c.in-Thread.is, ← c.get.ensures) c.with_tcb.ensures
