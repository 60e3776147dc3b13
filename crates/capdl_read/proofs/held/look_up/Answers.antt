use Rattle.capdl_read.proofs.Common.{IrqLine, ObjectLine, flat_map, irq_off, kind_off, noted_then, off_in, spread_found, ◌++◌}
use Rattle.capdl_read.proofs.held.look_up.Goals as goal

pub returns-clause-kind : goal.returns-clause-kind
returns-clause-kind c =
    let t = c.args.tree.now in
    let known = spread_found c.args.known.now in
    let objects = flat_map (λ (o : ObjectLine). kind_off t.arch o.kind) t.objects in
    let holders = flat_map (off_in t.arch known) t.holders in
    let irqs = flat_map (λ (l : IrqLine). irq_off l.object (known l.object.name)) t.irqs in
    noted_then c.lines_held.new.faults.kind c.holders_held.new.faults.kind c.args.faults.now.kind (objects ++ holders) irqs
    (noted_then c.holders_held.new.faults.kind c.note_objects.new.first c.args.faults.now.kind objects holders
    (rw c.as_slice.ensures at c.in_ok-note_objects.ensures) (rw c.as_slice-2.ensures at c.in_ok-slots.ensures.kind))
    (rw c.as_slice-3.ensures at c.in_ok-irqs.ensures.kind)
