use Rattle.cap_machine.proofs.Booting.{all_bootable, boot_nexts_fit, boot_fits}
use Rattle.cap_machine.proofs.boot_state.boot.Goals as goal

pub boot_nodes-requires : goal.boot_nodes-requires
boot_nodes-requires c = rw c.as_slice-entries.ensures (all_bootable c.args.spec.now c.requires)

pub new-requires : goal.new-requires
new-requires c = rw (c.in_ok-nodes.ensures, c.as_slice-entries.ensures)
    (boot_nexts_fit c.args.spec.now.entries (all_bootable c.args.spec.now c.requires))

pub returns-clause-fits : goal.returns-clause-fits
returns-clause-fits c = rw (
  c.new.ensures.state,
  c.in_ok-nodes.ensures,
  c.in_ok-threads.ensures,
  c.in_ok-irqs.ensures,
  c.as_slice-entries.ensures,
) (boot_fits c.args.spec.now c.requires)
