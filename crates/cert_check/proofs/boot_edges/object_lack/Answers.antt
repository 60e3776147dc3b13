use Rattle.cert_check.proofs.boot_edges.object_lack.Goals as goal
use Rattle.cert_check.proofs.Unheld.{cnode_lack, pages_lack, tcb_lack, irq_lack}

pub returns-in-CNode : goal.returns-in-CNode
returns-in-CNode c =
    rw c.in-CNode.is (cnode_lack c.args.spec.now c.args.labels.now.by_object c.args.cert.now c.args.from c.in-CNode.bits
    c.in-CNode.slots _ (rw c.as_slice.ensures at c.slots_lack.ensures))

pub returns-in-Pages : goal.returns-in-Pages
returns-in-Pages c =
    rw c.in-Pages.is (pages_lack c.args.spec.now c.args.labels.now.by_object c.args.cert.now c.args.from c.in-Pages.level
    c.in-Pages.slots _ (rw c.as_slice-in-Pages.ensures at c.slots_lack-in-Pages.ensures))

pub returns-in-Thread : goal.returns-in-Thread
returns-in-Thread c =
    rw c.in-Thread.is (tcb_lack c.args.spec.now c.args.labels.now.by_object c.args.cert.now c.args.from c.in-Thread.tcb _
    (rw c.get.ensures at c.thread_lack.ensures))

pub returns-in-Irq : goal.returns-in-Irq
returns-in-Irq c =
    rw c.in-Irq.is (irq_lack c.args.spec.now c.args.labels.now.by_object c.args.cert.now c.args.from c.in-Irq.notification _
    c.link_lack.ensures)
