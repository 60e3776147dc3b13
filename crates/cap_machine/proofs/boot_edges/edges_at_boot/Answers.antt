use Rattle.cap_machine.proofs.BootSources.{boot_sources}
use Rattle.cap_machine.proofs.boot_edges.edges_at_boot.Goals as goal

pub returns : goal.returns
returns c = boot_sources c.args.spec.now c.args.labels.now.by_object c.in_ok-edges.edges.items
    (rw c.new.ensures.items at c.in_ok-edges.ensures)
