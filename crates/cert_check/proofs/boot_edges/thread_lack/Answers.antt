use Rattle.cert_check.proofs.Common.{BufferLack, Control, LinkLack, ◌⊎◌}
use Rattle.cert_check.proofs.boot_edges.thread_lack.Goals as goal
use Rattle.cert_check.proofs.LeastEdges.{finds_either}

pub returns : goal.returns
returns c =
    finds_either (LinkLack c.args.labels.now.by_object c.args.cert.now c.args.from Control c.args.tcb.now.cspace)
    (λ e. LinkLack c.args.labels.now.by_object c.args.cert.now c.args.from Control c.args.tcb.now.vspace e
    ⊎ BufferLack c.args.spec.now c.args.labels.now.by_object c.args.cert.now c.args.from c.args.tcb.now.buffer e)
    _ _ _ c.link_lack-root.ensures
    (finds_either (LinkLack c.args.labels.now.by_object c.args.cert.now c.args.from Control c.args.tcb.now.vspace)
    (BufferLack c.args.spec.now c.args.labels.now.by_object c.args.cert.now c.args.from c.args.tcb.now.buffer)
    _ _ _ c.link_lack-space.ensures c.buffer_lack-buffer.ensures c.lesser_edge.ensures)
    c.lesser_edge-2.ensures
