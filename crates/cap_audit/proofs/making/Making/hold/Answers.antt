use Rattle.cap_audit.proofs.Acting.{hold_gains}
use Rattle.cap_audit.proofs.making.Making.hold.Goals as goal

pub returns : goal.returns
returns c =
    hold_gains c.args.self.now c.note_all.new.self c.requires.so_far c.args.node c.args.pick.now c.requires.held
    c.label-from.result c.label-from.ensures c.in_ok-edges.edges.items c.as_slice.result.now
    c.in_ok-edges.ensures c.as_slice.ensures.value c.in_ok-note_all.ensures
